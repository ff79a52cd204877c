use Rattle.std.proofs.Common.{◌≡◌, ◌∷◌, ◌++◌, [], ap, ◌∙◌, arith}
use Rattle.batch_script.specs.Generated.{batch_of, generated}
use Rattle.batch_script.specs.Machine.{reserve}
use Rattle.batch_script.specs.Reading.{plain_item, plain_items}
use Rattle.batch_script.proofs.DrawFacts.{number_after-step, made-more}
use Rattle.std.proofs.lemmas.List.{map-append}
use Rattle.batch_script.proofs.generator.generate.Goals as goal

pub loop-preserved : goal.loop-preserved
loop-preserved c =
    let held = c.loop.generator.number in
    let inv = c.loop.invariant in
    record {
      items = ap plain_items c.in_ok-push-2.ensures.last ∙ map-append plain_item c.loop.items.items _
          ∙ (λ i. inv.items i ++ c.in_ok-batch.ensures.batch i ∷ [])
          ∙ ap (λ items. reserve 4096 ∷ items) (made-more batch_of 25 c.args.seed c.loop.counter held inv.number);
      number = number_after-step 25 c.loop.counter c.args.seed held c.batch.new.self.number inv.number c.in_ok-batch.ensures.next;
    }

pub returns : goal.returns
returns c =
    let count : c.loop.counter ≡ c.args.n = omega (arith, c.loop-test.false, c.loop.auto.counter-end) in
    record { script = c.loop.invariant.items ∙ ap (generated c.args.seed) count }
