-- What nests and the items of their scripts are to a space.
use Rattle.std.specs.Prelude.{⊤, ℕ}
use Rattle.batch_script.specs.Machine.{reserve, show, batch}
use Rattle.batch_script.specs.Space.{SpaceMeaning}
use Rattle.batch_nest.specs.declared.item.NestItem.{NestItem}
use Rattle.batch_nest.specs.declared.item.NestItem.TheVariants.{Reserve, Show, Nest as NestOf}
use Rattle.batch_nest.specs.declared.nest.Nest.{Nest}
use Rattle.batch_nest.specs.Nest.{Body, IsBalanced, body_of}
use Rattle.batch_nest.specs.Script.{PlainNestItem, nest_bodies}

-- an item as a plain item
abbrev pub plain_nest_item : NestItem → PlainNestItem
plain_nest_item (Reserve number) = reserve number
plain_nest_item Show = show
plain_nest_item (NestOf nest) = batch (body_of nest.lines.items) nest.end

-- an item may be run if it is no nest, or one of balanced lines
abbrev pub MayRun : NestItem → Type 0
MayRun (Reserve number) = ⊤
MayRun Show = ⊤
MayRun (NestOf nest) = IsBalanced nest.lines.items

-- a nest has its body and its end, and may be applied if its lines are balanced
abbrev pub space_of_nests : SpaceMeaning NestItem (Nest ℕ)
space_of_nests = record {
  Plain = Body ℕ;
  bodies = nest_bodies;
  plain_body = λ nest. body_of nest.lines.items;
  ending = λ nest. nest.end;
  may_apply = λ nest. IsBalanced nest.lines.items;
  plain_item = plain_nest_item;
  may_run = MayRun;
}
