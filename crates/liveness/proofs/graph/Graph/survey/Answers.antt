use Rattle.std.proofs.Common.{arith}
use Rattle.liveness.proofs.SetsFacts.{surveyed_more}
use Rattle.liveness.proofs.graph.Graph.survey.Goals as goal

pub loop-b-preserved : goal.loop-b-preserved
loop-b-preserved g c = record {
  surveyed = rw (c.in_ok-push.ensures.last, c.in_ok-push-2.ensures.last)
      (surveyed_more _ _ _ _ _ _ _ c.loop-b.invariant.surveyed c.look-body.ensures.body
      (rw (← c.ops.ensures) c.in_ok-defined.ensures.defined) (rw (← c.ops.ensures) c.in_ok-defined.ensures.exposed));
  looks = let h = c.look-body.ensures.looks in let i = c.loop-b.invariant.looks in omega arith;
}
