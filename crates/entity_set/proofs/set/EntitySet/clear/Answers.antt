use Rattle.entity_set.proofs.KeysFacts.{below-empty}
use Rattle.entity_set.proofs.set.EntitySet.clear.Goals as goal

pub invariant_of-self : goal.invariant_of-self
invariant_of-self g c = below-empty _ _ c.clear.ensures.members
