use Rattle.std.proofs.Common.{◌+◌, ◌*◌, ◌-◌, length}
use Rattle.liveness.specs.Passes.{IsAlong, IsReady}
use Rattle.liveness.proofs.graph.Graph.live_in.Given as goal

abbrev pub invariant-loop-found : goal.invariant-loop-found
invariant-loop-found g l = record {
  ready : IsReady l.self.blocks l.found.defined.items l.found.live.items;
  along : IsAlong l.self.blocks l.fn.steps l.steps l.found.live.items;
}

abbrev pub decreases-loop-found : goal.decreases-loop-found
decreases-loop-found g l = l.fn.steps + length l.self.blocks * (length l.self.blocks + 1) - l.steps
