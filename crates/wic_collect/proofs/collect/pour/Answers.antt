use Rattle.std.proofs.Common.{◌∷◌, [], ◌++◌, rules, arith, sym, ap, ◌∙◌, append_assoc}
use Rattle.std.proofs.lemmas.Grind.{common_steps}
use Rattle.wic_collect.proofs.ReadingFacts.{reads_more}
use Rattle.wic_collect.proofs.collect.pour.Goals as goal

pub loop-limit-preserved : goal.loop-limit-preserved
loop-limit-preserved g c =
    let at = c.loop-limit.invariant in
    let put = c.in_default-push.ensures in
    record {
      ready = search rules;
      within = grind (arith, common_steps);
      capacity = omega (arith, put.capacity_never_falls, at.capacity);
      kept = grind (arith, common_steps);
      read = (
        at.read.0 ++ c.in-Ok.value ∷ [],
        put.last ∙ ap (λ l. l ++ c.in-Ok.value ∷ []) at.read.1 ∙ append_assoc _ at.read.0 _,
        reads_more g.I.Iterator.next_gives g.X.IntoResult.as_result c.args.iter.now c.loop-limit.iter c.next.new.self
            at.read.0 c.in-Some.item c.in-Ok.value at.read.2 c.in-Some.ensures.steps (sym c.into_result.ensures ∙ c.in-Ok.is),
      );
    }
