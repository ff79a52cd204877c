-- What the results of a batch say.
use Rattle.std.specs.Prelude.{◌≡◌, ℕ, zero, suc, ◌<◌, List, [], take, length, None}
use Rattle.std.specs.declared.result.Result.{Result}
use Rattle.std.specs.declared.result.Result.TheVariants.{Ok, Err}
use Rattle.batch_core.specs.State.{Contents}
use Rattle.batch_core.specs.Course.{Stand, Course}
use Rattle.batch_core.specs.Batch.{first_bad, outcome_of, committed, aborted, refused}
use Rattle.batch_core.specs.Room.{StaysWithin}
use Rattle.batch_core.specs.Workspace.{Workspace}
use Rattle.batch_core.specs.declared.command.Cause.{Cause}
use Rattle.batch_core.specs.declared.command.Cause.TheVariants.{Oom}
use Rattle.batch_core.specs.declared.answer.Done.{Done}
use Rattle.batch_core.specs.declared.answer.Done.TheVariants.{Committed, Aborted}
use Rattle.batch_core.specs.declared.command.End.{End}
use Rattle.batch_core.specs.declared.answer.Refusal.{Refusal}

module _ {T : Type 0} where
  -- memory ran out at this command: it and those before it are admitted, and one of them passes the room. At 0 it ran
  -- out before them, for more places than the room
  abbrev pub IsShort : ℕ → ℕ → List (Stand T) → ℕ → Type 0
  IsShort room places stands zero = room < places
  IsShort room places stands (suc before) = (before < length stands)
      × (first_bad (take (suc before) stands) ≡ None)
      × (¬ StaysWithin room (length stands) (take (suc before) stands))

  -- what has this course and needs so many places is refused with this cause at this command
  abbrev pub RefusedFor : ℕ → ℕ → Contents T → Course T → End → Cause → ℕ → Type 0
  RefusedFor room places contents course ending (Oom size) at = IsShort room places course.stands at
  RefusedFor room places contents course ending cause at =
      outcome_of contents course ending ≡ (refused (record { cause = cause; at = at }), contents)

  -- the same whatever its end
  abbrev pub RefusedAtAnyEnd : ℕ → ℕ → Contents T → Course T → Cause → ℕ → Type 0
  RefusedAtAnyEnd room places contents course cause at = (ending : End) → RefusedFor room places contents course ending cause at

  -- what has this course and needs so many places had this result, and left the workspace so
  abbrev pub IsApplied : Workspace T → ℕ → Course T → End → Result Done Refusal → Workspace T → Type 0
  IsApplied old places course ending (Ok Committed) new =
      outcome_of old.contents course ending ≡ (committed new.records, new.contents)
  IsApplied old places course ending (Ok Aborted) new =
      (outcome_of old.contents course ending ≡ (aborted, new.contents)) × (new.records ≡ [])
  IsApplied old places course ending (Err refusal) new = (new.contents ≡ old.contents) × (new.records ≡ [])
      × RefusedFor old.room places old.contents course ending refusal.cause refusal.at
