use Rattle.std.proofs.Common.{◌≡◌, ◌+◌}
use Rattle.liveness.specs.Passes.{IsSurveyed}
use Rattle.liveness.proofs.graph.Graph.survey.Given as goal

abbrev pub invariant-loop-b : goal.invariant-loop-b
invariant-loop-b g l = record {
  surveyed : IsSurveyed l.self.blocks l.b l.found.defined.items l.found.live.items;
  looks : l.steps ≡ l.fn.steps + l.b;
}
