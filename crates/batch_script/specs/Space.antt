-- What bodies and items are to a space, and what a space makes of a body.
use Rattle.std.specs.Prelude.{⊤, ℕ, List}
use Rattle.std.specs.declared.result.Result.{Result}
use Rattle.batch_core.specs.Applied.{IsApplied}
use Rattle.batch_core.specs.Workspace.{Workspace}
use Rattle.batch_core.specs.declared.answer.Done.{Done}
use Rattle.batch_core.specs.declared.answer.Refusal.{Refusal}
use Rattle.batch_core.specs.declared.command.Batch.{Batch}
use Rattle.batch_core.specs.declared.command.Command.{Command}
use Rattle.batch_core.specs.declared.command.End.{End}
use Rattle.batch_script.specs.declared.item.Item.{Item}
use Rattle.batch_script.specs.Machine.{Bodies, ItemOf, batches}
use Rattle.batch_script.specs.Reading.{plain_item}

-- what the bodies that a space applies and the items that run on it are to the plain machine
pub record SpaceMeaning (Item Body : Type 0) : Type 1 where
  -- the form that bodies have there
  pub Plain : Type 0
  -- what this form comes to
  pub bodies : Bodies Plain
  -- the form of a body
  pub plain_body : Body → Plain
  -- how a body ends
  pub ending : Body → End
  -- what must be known of a body before it is applied
  pub may_apply : Body → Type 0
  -- the form of an item
  pub plain_item : Item → ItemOf Plain
  -- what must be known of an item before it is run
  pub may_run : Item → Type 0

-- a batch has its commands and its end; it may always be applied, and an item may always be run
abbrev pub space_of_batches : SpaceMeaning Item (Batch ℕ)
space_of_batches = record {
  Plain = List (Command ℕ);
  bodies = batches;
  plain_body = λ batch. batch.commands.items;
  ending = λ batch. batch.end;
  may_apply = λ batch. ⊤;
  plain_item = plain_item;
  may_run = λ item. ⊤;
}

module _ {B : Type 0} (bodies : Bodies B) where
  -- a body had this result, and left the workspace so
  abbrev pub AppliedOver : Workspace ℕ → B → End → Result Done Refusal → Workspace ℕ → Type 0
  AppliedOver old body = IsApplied old (bodies.places body) (bodies.course old.contents body)
