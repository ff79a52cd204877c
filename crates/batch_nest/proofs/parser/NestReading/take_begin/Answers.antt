use Rattle.std.proofs.Common.{refl, subst}
use Rattle.std.proofs.lemmas.Result.{on_ok_weaker}
use Rattle.batch_nest.specs.declared.nest.NestLine.TheVariants.{Begin as BeginLine}
use Rattle.batch_nest.specs.Reading.{HaveRead}
use Rattle.batch_nest.proofs.LineFacts.{step_begin}
use Rattle.batch_nest.proofs.OpenFacts.{open_line}
use Rattle.batch_nest.proofs.ReadingFacts.{read_nest_line}
use Rattle.batch_nest.proofs.parser.NestReading.take_begin.Goals as goal

pub returns-in-Some : goal.returns-in-Some
returns-in-Some c =
    let items = c.args.self.now.items.items in
    let begun = c.in-Some.begun in
    let next = c.begin_inner.new.self in record {
      ok = on_ok_weaker c.begin_inner.result
          (λ adds lines valid was. read_nest_line items begun next lines BeginLine
          (subst (λ begun. HaveRead items begun lines) c.in-Some.is was) valid adds.0
          (open_line begun.lines.items begun.depth next.depth BeginLine (step_begin BeginLine begun.depth next.depth refl adds.1)))
          c.begin_inner.ensures.adds;
    }
