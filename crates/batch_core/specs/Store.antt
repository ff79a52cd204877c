-- What the calls of a store require and what they leave, by the command or the record.
use Rattle.std.specs.Prelude.{◌≡◌, ◌<◌, length, None, Result, OnOk, OnErr}
use Rattle.batch_core.specs.Command.{cause_of}
use Rattle.batch_core.specs.Back.{Grows, undo_record}
use Rattle.batch_core.specs.Workspace.{Workspace, IsDone, IsKept}
use Rattle.batch_core.specs.declared.command.Command.{Command}
use Rattle.batch_core.specs.declared.record.Record.{Record}

module _ {T : Type 0} where
  -- the command is admitted, and there is room for its record
  pub record IsPrepared (old : Workspace T) (command : Command T) : Type 0 where
    pub admitted : cause_of old.contents command ≡ None
    pub records : length old.records < old.capacities.records

  -- the command is done, and takes no storage
  pub record DoesInPlace (old : Workspace T) (command : Command T) (new : Workspace T) : Type 0 where
    pub done : IsDone old command new
    pub room : new.room ≡ old.room
    pub capacities : new.capacities ≡ old.capacities

  -- the command is done, or refused for memory, and then nothing but capacities changed; no capacity falls
  pub record MayDo {A E : Type 0} (old : Workspace T) (command : Command T) (result : Result A E) (new : Workspace T) : Type 0 where
    pub ok : OnOk result (IsDone old command new)
    pub err : OnErr result (IsKept old new)
    pub room : new.room ≡ old.room
    pub grows : Grows old.capacities new.capacities

  -- the record is undone, and takes no storage
  pub record Undoes (old : Workspace T) (undone : Record T) (new : Workspace T) : Type 0 where
    pub contents : new.contents ≡ undo_record undone old.contents
    pub records : new.records ≡ old.records
    pub room : new.room ≡ old.room
    pub capacities : new.capacities ≡ old.capacities
