-- Nests that fit a room by their counts alone: a caller needs no course to see it.
use Rattle.std.specs.Prelude.{⊤, ◌≡◌, ℕ, ◌+◌, ◌≤◌, max, List, [], ◌∷◌, length}
use Rattle.std.specs.FinMap.{len}
use Rattle.batch_core.specs.State.{Contents}
use Rattle.batch_core.specs.Counts.{Counts, CannotPass, counts_of, total_of}
use Rattle.batch_core.specs.declared.command.Command.{Command}
use Rattle.batch_core.specs.declared.command.Command.TheVariants.{Truncate}
use Rattle.batch_nest.specs.declared.nest.NestLine.{NestLine}
use Rattle.batch_nest.specs.Nest.{IsBalanced, begin_lines, body_of}
use Rattle.batch_nest.specs.Laws.{commands_among}
use Rattle.batch_nest.specs.Applied.{FitsNest}

module _ {T : Type 0} where
  -- how many values the command cuts off at most, if the list has at most so many: they may come back by an abort and be cut again
  abbrev pub most_cut : ℕ → Command T → ℕ
  most_cut values (Truncate kept) = values
  most_cut values command = 0

  -- By these counts the command of a nest can't pass the room. The number `cut` is that of all values that truncations may cut off.
  abbrev pub CannotPassInNest : ℕ → Counts → ℕ → Command T → Type 0
  CannotPassInNest room counts cut (Truncate kept) = counts.commands + cut ≤ room
  CannotPassInNest room counts cut command = CannotPass room counts command

  -- none of these commands can
  abbrev pub NoneCanPassInNest : ℕ → Counts → ℕ → List (Command T) → Type 0
  NoneCanPassInNest room counts cut [] = ⊤
  NoneCanPassInNest room counts cut (command ∷ commands) =
      CannotPassInNest room counts cut command × NoneCanPassInNest room counts cut commands

  -- by its counts the nest of these lines fits the room: its commands are counted whether an inner abort undoes them or not
  abbrev pub FitsNestByCounts : ℕ → Contents T → List (NestLine T) → Type 0
  FitsNestByCounts room contents lines =
      let commands = commands_among lines in
      let counts = counts_of contents commands in
      (max (length commands) (begin_lines lines) ≤ room)
      × NoneCanPassInNest room counts (total_of (most_cut counts.values) commands) commands

-- a nest that fits a room by the counts of its lines fits it
abbrev pub NestCountsAreEnough : Type 0 → Type 0
NestCountsAreEnough T =
    (room : ℕ) (contents : Contents T) (lines known : List (NestLine T))
    → IsBalanced lines → lines ≡ known → FitsNestByCounts room contents known → FitsNest room contents (body_of lines)
