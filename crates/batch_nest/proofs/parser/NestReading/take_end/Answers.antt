use Rattle.std.proofs.Common.{◌≡◌, [], ◌∷◌, ◌++◌, None, ap, arith, refl, sym, subst, ◌∙◌}
use Rattle.std.proofs.lemmas.Result.{on_ok_weaker}
use Rattle.batch_nest.specs.declared.item.NestItem.TheVariants.{Nest}
use Rattle.batch_nest.specs.Nest.{nest_end}
use Rattle.batch_nest.specs.Reading.{HaveRead}
use Rattle.batch_nest.specs.Script.{printed_line}
use Rattle.batch_nest.proofs.LineFacts.{step_end}
use Rattle.batch_nest.proofs.OpenFacts.{end_is, open_line}
use Rattle.batch_nest.proofs.ReadingFacts.{read_nest_end, read_nest_line}
use Rattle.batch_nest.proofs.parser.NestReading.take_end.Goals as goal

pub returns-then-begun-gt0 : goal.returns-then-begun-gt0
returns-then-begun-gt0 c =
    let items = c.args.self.now.items.items in
    let begun = c.in-Some.begun in
    let next = c.end_inner.new.self in
    let line = nest_end c.args.end in record {
      ok = on_ok_weaker c.end_inner.result
          (λ adds lines valid was. read_nest_line items begun next lines line
          (subst (λ begun. HaveRead items begun lines) c.in-Some.is was) valid adds.0
          (open_line begun.lines.items begun.depth next.depth line
          (step_end line begun.depth next.depth (end_is c.args.end) adds.1)))
          c.end_inner.ensures.adds;
    }

pub returns-in-Some-take : goal.returns-in-Some-take
returns-in-Some-take c =
    let items = c.args.self.now.items.items in
    let begun = c.in-Some.begun in
    let taken = c.in-Some-take.field-0.lines in
    let line = printed_line (nest_end c.args.end) in
    let value = c.take.ensures.value in
    let is = c.in-Some-take.is in
    let same : begun ≡ c.in-Some-take.field-0 = cc in
    let taken_is : taken.items ≡ begun.lines.items = ap (λ begun. begun.lines.items) (sym same) in
    record {
      ok = on_ok_weaker c.push.result
          (λ last lines valid was. subst (λ begun. HaveRead c.push.new.self.items begun (lines ++ line ∷ [])) (sym c.take.ensures.after)
          (subst (λ items. HaveRead items None (lines ++ line ∷ [])) (sym last)
          (read_nest_end items (Nest (record { lines = taken; end = c.args.end })) begun lines c.args.end
          (subst (λ begun. HaveRead items begun lines) c.in-Some.is was)
          (omega (arith, c.if-begun-gt0.false)) (λ balanced. (taken_is ∙ balanced, refl)))))
          c.push.ensures.last;
    }
