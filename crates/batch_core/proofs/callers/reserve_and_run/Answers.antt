use Rattle.std.proofs.Common.{◌≡◌, length, sym, ap, subst, ◌∙◌, arith}
use Rattle.std.specs.Vec.Iter.{into_iter_items}
use Rattle.batch_core.specs.Course.{course_of, places_of}
use Rattle.batch_core.specs.Many.{contents_after_one, contents_after_all, AllFit}
use Rattle.batch_core.proofs.RunFacts.{applied_contents}
use Rattle.batch_core.proofs.callers.reserve_and_run.Goals as goal

pub loop-batch-preserved : goal.loop-batch-preserved
loop-batch-preserved g c =
    let inv = c.loop-batch.invariant in
    let old = c.loop-batch.workspace in
    let new = c.apply.new.self in
    let batch = c.in-Some.batch in
    let rest = into_iter_items c.next.new.self in
    let steps = c.in-Some.ensures.steps in
    let short = ap length steps.0 in
    let fit = subst (AllFit c.args.n old.contents) steps.0 inv.fit in
    let course = course_of old.contents batch in
    let fits = c.law_larger_room.ensures.batches c.args.n old.room old.contents batch inv.room fit.0 in
    let comes : new.contents ≡ contents_after_one old.contents batch =
    applied_contents old new (places_of batch) course batch.end c.apply.result c.apply.ensures.applied (c.apply.ensures.never_oom_within fits) in
    record {
      room = omega (arith, inv.room, c.apply.ensures.room);
      fit = subst (λ k. AllFit c.args.n k rest) (sym comes) fit.1;
      after = ap (λ k. contents_after_all k rest) comes ∙ ap (contents_after_all old.contents) (sym steps.0) ∙ inv.after;
      left = omega (arith, inv.left, steps.1, short);
    }
