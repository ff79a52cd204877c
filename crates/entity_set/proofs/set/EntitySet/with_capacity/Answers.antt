use Rattle.entity_set.proofs.KeysFacts.{below-empty}
use Rattle.entity_set.proofs.set.EntitySet.with_capacity.Goals as goal

pub invariant_of-result : goal.invariant_of-result
invariant_of-result g c = below-empty _ _ c.in_ok-bits.ensures.members
