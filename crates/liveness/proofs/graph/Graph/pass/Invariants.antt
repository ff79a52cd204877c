use Rattle.std.proofs.Common.{◌≡◌, ◌+◌, ◌≤◌, length}
use Rattle.liveness.specs.Passes.{IsPassFrom, IsReady}
use Rattle.liveness.proofs.graph.Graph.pass.Given as goal

abbrev pub invariant-loop-b : goal.invariant-loop-b
invariant-loop-b g l = record {
  ready : IsReady l.self.blocks l.found.defined.items l.found.live.items;
  pass : IsPassFrom l.self.blocks l.changed l.fn.found.live.items l.found.live.items l.b;
  within : l.b ≤ length l.self.blocks;
  looks : l.steps + l.b ≡ l.fn.steps + length l.self.blocks;
}

abbrev pub decreases-loop-b : goal.decreases-loop-b
decreases-loop-b g l = l.b
