-- Batches that fit a room by their counts alone: a caller needs no course to see it.
use Rattle.std.specs.Prelude.{⊤, ◌≡◌, ℕ, ◌+◌, ◌<◌, ◌≤◌, List, [], ◌∷◌, length}
use Rattle.std.specs.FinMap.{len}
use Rattle.batch_core.specs.State.{Contents}
use Rattle.batch_core.specs.Course.{course_of, places_of}
use Rattle.batch_core.specs.Room.{Fits}
use Rattle.batch_core.specs.declared.command.Batch.{Batch}
use Rattle.batch_core.specs.declared.command.Command.{Command}
use Rattle.batch_core.specs.declared.command.Command.TheVariants.{Push, Alloc, Insert, Truncate}

-- the most that a batch can come to: its commands, the values of the list and the live ids, each with those that it adds
pub record Counts : Type 0 where
  pub commands : ℕ
  pub values : ℕ
  pub ids : ℕ

module _ {T : Type 0} where
  -- how many values the command pushes
  abbrev pub pushed_by : Command T → ℕ
  pushed_by (Push value) = 1
  pushed_by command = 0

  -- how many ids the command allocates
  abbrev pub allocated_by : Command T → ℕ
  allocated_by (Alloc value) = 1
  allocated_by command = 0

  -- the sum over these commands
  abbrev pub total_of : (Command T → ℕ) → List (Command T) → ℕ
  total_of count [] = 0
  total_of count (command ∷ commands) = count command + total_of count commands

  -- the counts of these commands, begun in these contents
  abbrev pub counts_of : Contents T → List (Command T) → Counts
  counts_of contents commands = record {
    commands = length commands;
    values = length contents.list + total_of pushed_by commands;
    ids = len contents.live + total_of allocated_by commands;
  }

  -- by these counts the command can't pass the room
  abbrev pub CannotPass : ℕ → Counts → Command T → Type 0
  CannotPass room counts (Push value) = counts.values ≤ room
  CannotPass room counts (Alloc value) = counts.ids ≤ room
  CannotPass room counts (Insert number) = number < room
  CannotPass room counts (Truncate kept) = counts.commands + counts.values ≤ room
  CannotPass room counts command = ⊤

  -- none of these commands can
  abbrev pub NoneCanPass : ℕ → Counts → List (Command T) → Type 0
  NoneCanPass room counts [] = ⊤
  NoneCanPass room counts (command ∷ commands) = CannotPass room counts command × NoneCanPass room counts commands

  -- by its counts the batch of these commands fits the room
  abbrev pub FitsByCounts : ℕ → Contents T → List (Command T) → Type 0
  FitsByCounts room contents commands = (length commands ≤ room) × NoneCanPass room (counts_of contents commands) commands

-- a batch of these commands that fits a room by its counts fits it
abbrev pub CountsAreEnough : Type 0 → Type 0
CountsAreEnough T =
    (room : ℕ) (contents : Contents T) (batch : Batch T) (commands : List (Command T))
    → batch.commands.items ≡ commands → FitsByCounts room contents commands
    → Fits room (places_of batch) (course_of contents batch).stands
