-- Which batches fit a room: those are never refused for memory.
use Rattle.std.specs.Prelude.{⊤, ℕ, ◌+◌, ◌-◌, ◌<◌, ◌≤◌, List, [], ◌∷◌, length, IfNone}
use Rattle.std.specs.FinMap.{len}
use Rattle.batch_core.specs.State.{Contents}
use Rattle.batch_core.specs.Command.{cause_of, effect_of}
use Rattle.batch_core.specs.Course.{Stand}
use Rattle.batch_core.specs.declared.command.Command.{Command}
use Rattle.batch_core.specs.declared.command.Command.TheVariants.{Push, Alloc, Insert, Truncate}

module _ {T : Type 0} where
  -- how many values the command cuts off
  abbrev pub cut_by : Contents T → Command T → ℕ
  cut_by contents (Truncate kept) = length contents.list - kept
  cut_by contents command = 0

  -- The admitted command needs more than the room. The number `count` is that of all commands of the batch and of the
  -- values that those before this one cut off.
  abbrev pub Passes : ℕ → ℕ → Contents T → Command T → Type 0
  Passes room count contents (Push value) = room < length (effect_of contents (Push value)).list
  Passes room count contents (Alloc value) = room < len (effect_of contents (Alloc value)).live
  Passes room count contents (Insert number) = room ≤ number
  Passes room count contents (Truncate kept) = room < count + cut_by contents (Truncate kept)
  Passes room count contents command = ⊥

  -- no command up to the first bad one passes the room where it stands
  abbrev pub StaysWithin : ℕ → ℕ → List (Stand T) → Type 0
  StaysWithin room count [] = ⊤
  StaysWithin room count (stand ∷ stands) = IfNone (cause_of stand.contents stand.command)
      ((¬ Passes room count stand.contents stand.command)
      × StaysWithin room (count + cut_by stand.contents stand.command) stands)

  -- the course of these commands, which needs so many places to begin, fits the room: these are no more than the room, and the
  -- commands stay within it
  pub record Fits (room places : ℕ) (stands : List (Stand T)) : Type 0 where
    pub few : places ≤ room
    pub within : StaysWithin room (length stands) stands
