-- What a command does to the contents, which records it leaves, and why it may be bad.
use Rattle.std.specs.Prelude.{◌-◌, Bool, true, false, List, [], ◌∷◌, ◌++◌, Option, Some, None, nat_lt, nat_le, not, length, take, drop}
use Rattle.std.specs.Prelude.{reverse, map, slice_get, slice_set}
use Rattle.std.specs.FinMap.{get, insert, remove, contains_key, len}
use Rattle.std.specs.FinSet.{contains, insert as with_member, remove as without_member}
use Rattle.wic_slab.specs.Order.{max_capacity, next_id, take_next, give_back}
use Rattle.batch_core.specs.State.{Contents, max_member}
use Rattle.batch_core.specs.declared.command.Command.{Command}
use Rattle.batch_core.specs.declared.command.Command.TheVariants.{Push, Pop, Set, Alloc, Free, Put, Insert, Remove, Truncate}
use Rattle.batch_core.specs.declared.command.Cause.{Cause}
use Rattle.batch_core.specs.declared.command.Cause.TheVariants.{Empty, Position, Vacant, Full, TooLarge}
use Rattle.batch_core.specs.declared.record.Record.{Record}
use Rattle.batch_core.specs.declared.record.Record.TheVariants.{Pushed, Popped, Replaced, Allocated, Freed, Put as Overwritten}
use Rattle.batch_core.specs.declared.record.Record.TheVariants.{Inserted, Removed, Cut, Truncated}

-- no cause if the test holds, and else this one
abbrev pub unless : Bool → Cause → Option Cause
unless true cause = None
unless false cause = Some cause

module _ {T : Type 0} where
  -- the list without its last value
  abbrev pub without_last : List T → List T
  without_last values = take (length values - 1) values

  -- the last value of the list, if it has one
  abbrev pub last_value : List T → Option T
  last_value values = slice_get values (length values - 1)

  -- the record that is made of a value, if there is one
  abbrev pub made_of : Option T → (T → Record T) → List (Record T)
  made_of None made = []
  made_of (Some old) made = made old ∷ []

  -- the cause of the command in these contents; it is admitted if there is none
  abbrev pub cause_of : Contents T → Command T → Option Cause
  cause_of contents (Push value) = None
  cause_of contents Pop = unless (nat_lt 0 (length contents.list)) Empty
  cause_of contents (Set at value) = unless (nat_lt at (length contents.list)) Position
  cause_of contents (Alloc value) = unless (nat_lt (len contents.live) max_capacity) Full
  cause_of contents (Free id) = unless (contains_key contents.live id) Vacant
  cause_of contents (Put id value) = unless (contains_key contents.live id) Vacant
  cause_of contents (Insert number) = unless (nat_le number max_member) TooLarge
  cause_of contents (Remove number) = None
  cause_of contents (Truncate kept) = unless (nat_le kept (length contents.list)) Position

  -- the contents after an admitted command
  abbrev pub effect_of : Contents T → Command T → Contents T
  effect_of contents (Push value) = record contents { list = contents.list ++ value ∷ [] }
  effect_of contents Pop = record contents { list = without_last contents.list }
  effect_of contents (Set at value) = record contents { list = slice_set contents.list at value }
  effect_of contents (Alloc value) =
      record contents { live = insert contents.live (next_id contents.order) value; order = take_next contents.order }
  effect_of contents (Free id) = record contents { live = remove contents.live id; order = give_back contents.order id }
  effect_of contents (Put id value) = record contents { live = insert contents.live id value }
  effect_of contents (Insert number) = record contents { set = with_member contents.set number }
  effect_of contents (Remove number) = record contents { set = without_member contents.set number }
  effect_of contents (Truncate kept) = record contents { list = take kept contents.list }

  -- the records of an admitted command, the oldest first: they show its reply
  abbrev pub records_of : Contents T → Command T → List (Record T)
  records_of contents (Push value) = Pushed ∷ []
  records_of contents Pop = made_of (last_value contents.list) Popped
  records_of contents (Set at value) = made_of (slice_get contents.list at) (Replaced at)
  records_of contents (Alloc value) = Allocated (next_id contents.order) ∷ []
  records_of contents (Free id) = made_of (get contents.live id) (Freed id)
  records_of contents (Put id value) = made_of (get contents.live id) (Overwritten id)
  records_of contents (Insert number) = Inserted number (not (contains contents.set number)) ∷ []
  records_of contents (Remove number) = Removed number (contains contents.set number) ∷ []
  records_of contents (Truncate kept) =
      map Cut (reverse (drop kept contents.list)) ++ Truncated (length contents.list - kept) ∷ []
