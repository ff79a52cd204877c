-- What the results of a nest say, and which nests fit a room.
use Rattle.std.specs.Prelude.{◌≡◌, ℕ, List, None}
use Rattle.std.specs.declared.result.Result.{Result}
use Rattle.batch_core.specs.State.{Contents}
use Rattle.batch_core.specs.Batch.{first_bad}
use Rattle.batch_core.specs.Room.{Fits}
use Rattle.batch_core.specs.Applied.{IsApplied, RefusedAtAnyEnd}
use Rattle.batch_core.specs.Workspace.{Workspace}
use Rattle.batch_core.specs.declared.answer.Done.{Done}
use Rattle.batch_core.specs.declared.answer.Refusal.{Refusal}
use Rattle.batch_core.specs.declared.command.Cause.{Cause}
use Rattle.batch_core.specs.declared.command.End.{End}
use Rattle.batch_nest.specs.declared.nest.NestLine.{NestLine}
use Rattle.batch_nest.specs.Nest.{Body, nest_lines, nest_course, nest_places}

module _ {T : Type 0} where
  -- it holds of the body that has these lines
  abbrev pub OfBody : List (NestLine T) → (Body T → Type 0) → Type 0
  OfBody lines Holds = (body : Body T) → lines ≡ nest_lines body → Holds body

  -- the nest of this body fits the room
  abbrev pub FitsNest : ℕ → Contents T → Body T → Type 0
  FitsNest room contents body = Fits room (nest_places body) (nest_course contents body).stands

  -- a nest of this body is refused with this cause at this command, whatever its end
  abbrev pub NestRefusedAtAnyEnd : ℕ → Contents T → Body T → Cause → ℕ → Type 0
  NestRefusedAtAnyEnd room contents body = RefusedAtAnyEnd room (nest_places body) contents (nest_course contents body)

  -- a nest of this body had this result, and left the workspace so
  abbrev pub IsNestApplied : Workspace T → Body T → End → Result Done Refusal → Workspace T → Type 0
  IsNestApplied old body = IsApplied old (nest_places body) (nest_course old.contents body)

  -- no command of the body is bad, and all were done
  pub record IsThrough (old new : Workspace T) (body : Body T) : Type 0 where
    pub not_bad : first_bad (nest_course old.contents body).stands ≡ None
    pub records : new.records ≡ (nest_course old.contents body).records
    pub contents : new.contents ≡ (nest_course old.contents body).after
