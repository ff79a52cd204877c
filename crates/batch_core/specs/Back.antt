-- Records taken back, the newest first.
use Rattle.std.specs.Prelude.{⊤, ℕ, ◌<◌, ◌≤◌, true, false, List, [], ◌∷◌, ◌++◌, IsTrue, length, drop, slice_set}
use Rattle.std.specs.FinMap.{insert, remove, contains_key, len}
use Rattle.std.specs.FinSet.{insert as with_member, remove as without_member}
use Rattle.wic_slab.specs.Order.{next_id, take_next, give_back}
use Rattle.wic_base.specs.Sets.{AllBelow}
use Rattle.batch_core.specs.State.{Contents, max_member}
use Rattle.batch_core.specs.Command.{without_last}
use Rattle.batch_core.specs.declared.record.Record.{Record}
use Rattle.batch_core.specs.declared.record.Record.TheVariants.{Pushed, Popped, Replaced, Allocated, Freed, Put as Overwritten}
use Rattle.batch_core.specs.declared.record.Record.TheVariants.{Inserted, Removed, Cut, Truncated}

-- how much fits without an allocation: so many values in list and table, the numbers below so many in the set, and
-- so many records
pub record Capacities : Type 0 where
  pub list : ℕ
  pub set : ℕ
  pub table : ℕ
  pub records : ℕ

-- no capacity is lower than before
pub record Grows (old new : Capacities) : Type 0 where
  pub list : old.list ≤ new.list
  pub set : old.set ≤ new.set
  pub table : old.table ≤ new.table
  pub records : old.records ≤ new.records

module _ {T : Type 0} where
  -- list, set and table are within the capacities
  pub record IsWithin (within : Capacities) (contents : Contents T) : Type 0 where
    pub list : length contents.list ≤ within.list
    pub set : AllBelow within.set contents.set
    pub table : len contents.live ≤ within.table

  -- the contents once this record is undone
  abbrev pub undo_record : Record T → Contents T → Contents T
  undo_record Pushed contents = record contents { list = without_last contents.list }
  undo_record (Popped value) contents = record contents { list = contents.list ++ value ∷ [] }
  undo_record (Replaced at old) contents = record contents { list = slice_set contents.list at old }
  undo_record (Allocated id) contents = record contents { live = remove contents.live id; order = give_back contents.order id }
  undo_record (Freed id old) contents =
      record contents { live = insert contents.live (next_id contents.order) old; order = take_next contents.order }
  undo_record (Overwritten id old) contents = record contents { live = insert contents.live id old }
  undo_record (Inserted number true) contents = record contents { set = without_member contents.set number }
  undo_record (Inserted number false) contents = contents
  undo_record (Removed number true) contents = record contents { set = with_member contents.set number }
  undo_record (Removed number false) contents = contents
  undo_record (Cut value) contents = record contents { list = contents.list ++ value ∷ [] }
  undo_record (Truncated removed) contents = contents

  -- the contents once all these records are undone, the newest first
  abbrev pub undo_all : List (Record T) → Contents T → Contents T
  undo_all [] contents = contents
  undo_all (first ∷ records) contents = undo_record first (undo_all records contents)

  -- the contents once the records after the mark are undone
  abbrev pub back : Contents T → List (Record T) → ℕ → Contents T
  back contents records mark = undo_all (drop mark records) contents

  -- undoing this record is possible, and stays within the capacities
  abbrev pub CanUndo : Capacities → Record T → Contents T → Type 0
  CanUndo within Pushed contents = ⊤
  CanUndo within (Popped value) contents = length contents.list < within.list
  CanUndo within (Replaced at old) contents = at < length contents.list
  CanUndo within (Allocated id) contents = IsTrue (contains_key contents.live id)
  CanUndo within (Freed id old) contents = len contents.live < within.table
  CanUndo within (Overwritten id old) contents = IsTrue (contains_key contents.live id)
  CanUndo within (Inserted number was_new) contents = ⊤
  CanUndo within (Removed number true) contents = (number < within.set) × (number ≤ max_member)
  CanUndo within (Removed number false) contents = ⊤
  CanUndo within (Cut value) contents = length contents.list < within.list
  CanUndo within (Truncated removed) contents = ⊤

  -- so it is for all these records, each when its turn comes
  abbrev pub CanGoBack : Capacities → List (Record T) → Contents T → Type 0
  CanGoBack within [] contents = ⊤
  CanGoBack within (first ∷ records) contents = CanGoBack within records contents × CanUndo within first (undo_all records contents)
