-- The course of a batch: its commands in the order of the lines, each where it stands.
use Rattle.std.specs.Prelude.{ℕ, List, [], ◌∷◌, ◌++◌, length}
use Rattle.batch_core.specs.State.{Contents}
use Rattle.batch_core.specs.Command.{effect_of, records_of}
use Rattle.batch_core.specs.declared.command.Batch.{Batch}
use Rattle.batch_core.specs.declared.command.Command.{Command}
use Rattle.batch_core.specs.declared.record.Record.{Record}

-- a command, and the contents in which it stands
pub record Stand (T : Type 0) : Type 0 where
  pub contents : Contents T
  pub command : Command T

-- commands in the order of their lines, each where it stands; what is recorded in the end, and what is held then
pub record Course (T : Type 0) : Type 0 where
  pub stands : List (Stand T)
  pub records : List (Record T)
  pub after : Contents T

module _ {T : Type 0} where
  -- the command stands in these contents, and the course goes on from its effect
  abbrev pub led_by : Contents T → Command T → Course T → Course T
  led_by contents command later = record {
    stands = record { contents = contents; command = command } ∷ later.stands;
    records = records_of contents command ++ later.records;
    after = later.after;
  }

  -- the course of a batch: each command stands in what those before it left
  abbrev pub batch_course : Contents T → List (Command T) → Course T
  batch_course contents [] = record { stands = []; records = []; after = contents }
  batch_course contents (command ∷ commands) = led_by contents command (batch_course (effect_of contents command) commands)

  -- the course of this batch from these contents
  abbrev pub course_of : Contents T → Batch T → Course T
  course_of contents batch = batch_course contents batch.commands.items

  -- so many places for records it needs to begin: one for each command
  abbrev pub places_of : Batch T → ℕ
  places_of batch = length batch.commands.items
