use Rattle.liveness.proofs.SetsFacts.{visited, visited_ready}
use Rattle.liveness.proofs.graph.Graph.visit.Goals as goal

pub returns-clause-ready : goal.returns-clause-ready
returns-clause-ready g c = visited_ready _ _ _ _ _ _ _ _ _ _ c.requires.ready c.requires.below c.look-body.ensures.body
    c.index_mut.ensures.item c.index.ensures c.in_ok-collect_after.ensures c.subtract.ensures.members c.in_ok-added.ensures.members

pub returns-clause-visit : goal.returns-clause-visit
returns-clause-visit g c = visited _ _ _ _ _ _ _ _ _ _ c.requires.ready c.requires.below c.look-body.ensures.body
    c.index_mut.ensures.item c.index.ensures c.in_ok-collect_after.ensures c.subtract.ensures.members c.in_ok-added.ensures.members
    _ c.in_ok-added.ensures.added c.in_ok-added.ensures.as_before
