use Rattle.wic_base.proofs.SetFacts.{none_in_empty}
use Rattle.liveness.proofs.SetsFacts.{any_at, after_more}
use Rattle.liveness.proofs.live.collect_after.Goals as goal

pub index-requires : goal.index-requires
index-requires c = c.requires _ (rw (← c.successors-c-items.ensures) (any_at _ _ _ c.loop-c-test.true))

pub loop-c-init : goal.loop-c-init
loop-c-init c = none_in_empty _ c.clear.ensures.members

pub loop-c-preserved : goal.loop-c-preserved
loop-c-preserved c v = after_more _ _ _ _ _ _ _ _ c.loop-c-test.true c.index.ensures c.in_ok-union_with.ensures.members
    (c.loop-c.invariant v)
