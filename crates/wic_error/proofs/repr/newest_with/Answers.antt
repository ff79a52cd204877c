use Rattle.std.proofs.Common.{◌==◌, ◌∷◌, append_assoc}
use Rattle.std.proofs.lemmas.Bool.{ne_eqb}
use Rattle.wic_error.proofs.LinkFacts.{none_in_more}
use Rattle.wic_error.proofs.repr.newest_with.Goals as goal

pub loop-link-preserved : goal.loop-link-preserved
loop-link-preserved g c =
    let more = c.loop-link.invariant.1 in (
      c.in-Some.link.now ∷ c.loop-link.invariant.0,
      rw (c.in-Some.ensures.cases.0, append_assoc) at more,
      none_in_more (λ k. g.K.Kind.number k == c.args.number) c.in-Some.link.now c.loop-link.invariant.0 c.loop-link.invariant.2
          (ne_eqb _ _ (rw c.number.ensures.answers at c.if-number.false)),
    )
