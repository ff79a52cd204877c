use Rattle.std.proofs.Common.{ap}
use Rattle.liveness.specs.Graph.{Flow}
use Rattle.liveness.proofs.GraphFacts.{edges_within}
use Rattle.liveness.proofs.graph.Graph.look.Goals as goal

pub returns-clause-edges : goal.returns-clause-edges
returns-clause-edges g c =
    let seen = ap (λ (x : Flow). x.blocks) c.self.view_is in
    rw (← seen) (edges_within _ _ _ c.self.invariant.0 c.index.ensures)
