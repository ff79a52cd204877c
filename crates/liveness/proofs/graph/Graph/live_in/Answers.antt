use Rattle.liveness.proofs.PassFacts.{along_starts, along_more, along_ends, along_falls}
use Rattle.liveness.proofs.SetsFacts.{ready_from_survey}
use Rattle.liveness.proofs.graph.Graph.live_in.Goals as goal

pub loop-found-init : goal.loop-found-init
loop-found-init g c = record {
  ready = ready_from_survey _ _ _ c.in_ok-found.ensures.surveyed;
  along = along_starts _ _ _ _ _ c.survey.ensures.edges c.in_ok-found.ensures.surveyed c.in_ok-found.ensures.looks;
}

pub loop-found-smaller : goal.loop-found-smaller
loop-found-smaller g c = along_falls _ _ _ _ _ _ c.loop-found.invariant.along (rw c.if-branch.true at c.in_ok-pass.ensures.pass)
    c.in_ok-pass.ensures.looks

pub loop-found-preserved : goal.loop-found-preserved
loop-found-preserved g c = record {
  ready = c.in_ok-pass.ensures.ready;
  along = along_more _ _ _ _ _ _ c.loop-found.invariant.along (rw c.if-branch.true at c.in_ok-pass.ensures.pass)
      c.in_ok-pass.ensures.looks;
}

pub returns-clause-live : goal.returns-clause-live
returns-clause-live g c = along_ends _ _ _ _ _ c.survey.ensures.edges c.in_ok-pass.ensures.ready.count c.loop-found.invariant.along
    (rw c.if-branch.false at c.in_ok-pass.ensures.pass)
