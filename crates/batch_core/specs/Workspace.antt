-- What a contract sees of a workspace.
use Rattle.std.specs.Prelude.{⊤, ◌≡◌, ℕ, ◌+◌, ◌≤◌, List, ◌++◌, length, Some, None}
use Rattle.std.specs.FinMap.{len}
use Rattle.batch_core.specs.State.{Contents}
use Rattle.batch_core.specs.Command.{cause_of, effect_of, records_of}
use Rattle.batch_core.specs.Back.{Capacities, CanGoBack}
use Rattle.wic_base.specs.Sets.{AllBelow}
use Rattle.batch_core.specs.Room.{Passes}
use Rattle.batch_core.specs.declared.command.Cause.{Cause}
use Rattle.batch_core.specs.declared.command.Cause.TheVariants.{Oom}
use Rattle.batch_core.specs.declared.command.Command.{Command}
use Rattle.batch_core.specs.declared.record.Record.{Record}

-- the contents, the records since the last batch began, the room, and the capacities
pub record Workspace (T : Type 0) : Type 0 where
  pub contents : Contents T
  pub records : List (Record T)
  pub room : ℕ
  pub capacities : Capacities

-- out of memory
abbrev pub IsOom : Cause → Type 0
IsOom (Oom size) = ⊤
IsOom cause = ⊥

module _ {T : Type 0} where
  -- the invariant of a workspace: its records can be undone without an allocation, and no capacity is below the room
  pub record IsReady (s : Workspace T) : Type 0 where
    pub back : CanGoBack s.capacities s.records s.contents
    pub list : s.room ≤ s.capacities.list
    pub set : s.room ≤ s.capacities.set
    pub table : s.room ≤ s.capacities.table
    pub records : s.room ≤ s.capacities.records

  -- the command took effect, and its records were added
  pub record IsDone (old : Workspace T) (command : Command T) (new : Workspace T) : Type 0 where
    pub effect : new.contents ≡ effect_of old.contents command
    pub records : new.records ≡ old.records ++ records_of old.contents command

  -- nothing but capacities changed
  pub record IsKept (old new : Workspace T) : Type 0 where
    pub contents : new.contents ≡ old.contents
    pub records : new.records ≡ old.records

  -- the command, once it took effect, stays within the capacities
  pub record HasRoom (s : Workspace T) (command : Command T) : Type 0 where
    pub list : length (effect_of s.contents command).list ≤ s.capacities.list
    pub set : AllBelow s.capacities.set (effect_of s.contents command).set
    pub table : len (effect_of s.contents command).live ≤ s.capacities.table
    pub records : length s.records + length (records_of s.contents command) ≤ s.capacities.records

  -- why a command wasn't done: its cause, or else out of memory, and then it would pass a capacity
  abbrev pub IsCauseOf : Workspace T → Command T → Cause → Type 0
  IsCauseOf s command (Oom size) = (cause_of s.contents command ≡ None) × (¬ HasRoom s command)
  IsCauseOf s command cause = cause_of s.contents command ≡ Some cause

  -- the command keeps within the room: it leaves no more records than the room, and doesn't pass it
  pub record KeepsWithin (s : Workspace T) (command : Command T) : Type 0 where
    pub few : length s.records + 1 ≤ s.room
    pub within : ¬ Passes s.room (length s.records + 1) s.contents command
