-- Bodies: commands and inner bodies in the order of their lines, and what they come to.
use Rattle.std.specs.Prelude.{◌≡◌, ℕ, ◌+◌, max, List, [], ◌∷◌, ◌++◌}
use Rattle.batch_core.specs.State.{Contents}
use Rattle.batch_core.specs.Command.{effect_of}
use Rattle.batch_core.specs.Course.{Course, led_by}
use Rattle.batch_core.specs.declared.command.Command.{Command}
use Rattle.batch_core.specs.declared.command.End.{End}
use Rattle.batch_core.specs.declared.command.End.TheVariants.{Commit, Abort}
use Rattle.batch_nest.specs.declared.nest.NestLine.{NestLine}
use Rattle.batch_nest.specs.declared.nest.NestLine.TheVariants.{Command as CommandLine, Begin as BeginLine}
use Rattle.batch_nest.specs.declared.nest.NestLine.TheVariants.{Commit as CommitLine, Abort as AbortLine}

-- what stands between a begin and its end: nothing more, a command and what follows, or an inner body, its end and what follows
pub data Body (T : Type 0) : Type 0 where
  done : Body T
  then_command : Command T → Body T → Body T
  then_inner : Body T → End → Body T → Body T

-- lines read from the last one: the body that they begin with, and each end behind it that has no begin, with what follows it
pub record FromLast (T : Type 0) : Type 0 where
  pub body : Body T
  pub outer : List (End × Body T)

module _ {T : Type 0} where
  -- the line that ends an inner body
  abbrev pub nest_end : End → NestLine T
  nest_end Commit = CommitLine
  nest_end Abort = AbortLine

  -- the lines of a body
  abbrev pub nest_lines : Body T → List (NestLine T)
  nest_lines done = []
  nest_lines (then_command command later) = CommandLine command ∷ nest_lines later
  nest_lines (then_inner inner ending later) = BeginLine ∷ nest_lines inner ++ nest_end ending ∷ nest_lines later

  -- a begin before such lines takes the first of these ends
  abbrev pub with_begin : Body T → List (End × Body T) → FromLast T
  with_begin inner [] = record { body = inner; outer = [] }
  with_begin inner ((ending, later) ∷ outer) = record { body = then_inner inner ending later; outer = outer }

  -- an end before such lines has no begin yet
  abbrev pub with_end : End → FromLast T → FromLast T
  with_end ending later = record { body = done; outer = (ending, later.body) ∷ later.outer }

  -- lines are read from the last one
  abbrev pub from_last : List (NestLine T) → FromLast T
  from_last [] = record { body = done; outer = [] }
  from_last (CommandLine command ∷ lines) = record (from_last lines) { body = then_command command (from_last lines).body }
  from_last (BeginLine ∷ lines) = with_begin (from_last lines).body (from_last lines).outer
  from_last (CommitLine ∷ lines) = with_end Commit (from_last lines)
  from_last (AbortLine ∷ lines) = with_end Abort (from_last lines)

  -- the body that lines lead to
  abbrev pub body_of : List (NestLine T) → Body T
  body_of lines = (from_last lines).body

  -- each end closes an earlier begin, and none stays open: the lines are those of a body, and so of the one that they lead to
  abbrev pub IsBalanced : List (NestLine T) → Type 0
  IsBalanced lines = lines ≡ nest_lines (body_of lines)

  -- how many of the lines are commands
  abbrev pub command_lines : List (NestLine T) → ℕ
  command_lines [] = 0
  command_lines (CommandLine command ∷ lines) = 1 + command_lines lines
  command_lines (BeginLine ∷ lines) = command_lines lines
  command_lines (CommitLine ∷ lines) = command_lines lines
  command_lines (AbortLine ∷ lines) = command_lines lines

  -- how many of the lines begin an inner body
  abbrev pub begin_lines : List (NestLine T) → ℕ
  begin_lines [] = 0
  begin_lines (CommandLine command ∷ lines) = begin_lines lines
  begin_lines (BeginLine ∷ lines) = 1 + begin_lines lines
  begin_lines (CommitLine ∷ lines) = begin_lines lines
  begin_lines (AbortLine ∷ lines) = begin_lines lines

  -- An inner body that ends in commit leaves what it recorded and holds. One that ends in abort leaves no records, and the
  -- contents of its own start.
  abbrev pub left_by : Contents T → Course T → End → Course T
  left_by start inner Commit = inner
  left_by start inner Abort = record { stands = inner.stands; records = []; after = start }

  -- one course, and then the other
  abbrev pub followed_by : Course T → Course T → Course T
  followed_by first later = record {
    stands = first.stands ++ later.stands;
    records = first.records ++ later.records;
    after = later.after;
  }

  -- the course of a body: each command and each inner body stands in what those before it left
  abbrev pub nest_course : Contents T → Body T → Course T
  nest_course contents done = record { stands = []; records = []; after = contents }
  nest_course contents (then_command command later) = led_by contents command (nest_course (effect_of contents command) later)
  nest_course contents (then_inner inner ending later) =
      followed_by (left_by contents (nest_course contents inner) ending)
      (nest_course (left_by contents (nest_course contents inner) ending).after later)

  -- so many places a nest of this body needs to begin: one for the record of each command, or, if there are more of them, one for the
  -- mark of each inner body
  abbrev pub nest_places : Body T → ℕ
  nest_places body = max (command_lines (nest_lines body)) (begin_lines (nest_lines body))
