-- The laws of going back, of allocations, and of workspaces with the same contents.
use Rattle.std.specs.Prelude.{◌≡◌, ◌↔◌, ℕ, ◌+◌, ◌≤◌, Bool, List, None, length, take, IsTrue}
use Rattle.std.specs.FinMap.{len}
use Rattle.batch_core.specs.State.{Contents, IsSound}
use Rattle.batch_core.specs.Command.{cause_of, effect_of, records_of}
use Rattle.batch_core.specs.Back.{undo_all, back}
use Rattle.batch_core.specs.Course.{batch_course}
use Rattle.batch_core.specs.Same.{HaveSameContents}
use Rattle.batch_core.specs.declared.command.Command.{Command}
use Rattle.batch_core.specs.declared.command.Command.TheVariants.{Alloc}
use Rattle.batch_core.specs.declared.record.Record.{Record}

-- undoing the records of an admitted command, the newest first, on the contents after it gives the contents before it
abbrev pub UndoingGoesBack : Type 0 → Type 0
UndoingGoesBack T =
    (contents : Contents T) (command : Command T)
    → IsSound contents → cause_of contents command ≡ None
    → undo_all (records_of contents command) (effect_of contents command) ≡ contents

-- going back to a mark, and then to an earlier one, is going back to the earlier one at once
abbrev pub GoingBackInTwo : Type 0 → Type 0
GoingBackInTwo T =
    (contents : Contents T) (records : List (Record T)) (early late : ℕ)
    → early ≤ late
    → (back (back contents records late) (take late records) early ≡ back contents records early)
    × (take early (take late records) ≡ take early records)

-- the course of a batch has one stand per command
abbrev pub EachCommandStandsOnce : Type 0 → Type 0
EachCommandStandsOnce T =
    (contents : Contents T) (commands : List (Command T)) → length (batch_course contents commands).stands ≡ length commands

-- on sound contents an admitted allocation raises the number of live ids by one
abbrev pub AllocationAddsOne : Type 0 → Type 0
AllocationAddsOne T =
    (contents : Contents T) (value : T)
    → IsSound contents → cause_of contents (Alloc value) ≡ None
    → len (effect_of contents (Alloc value)).live ≡ len contents.live + 1

-- if values are equal exactly when their comparison says so, contents are the same exactly when list, set and live values
-- are equal
abbrev pub SameContentsAreEqual : Type 0 → Type 0
SameContentsAreEqual T =
    (equal : T → T → Bool) (contents other : Contents T)
    → ((a b : T) → IsTrue (equal a b) ↔ (a ≡ b))
    → HaveSameContents equal contents other
    ↔ ((contents.list ≡ other.list) × (contents.set ≡ other.set) × (contents.live ≡ other.live))
