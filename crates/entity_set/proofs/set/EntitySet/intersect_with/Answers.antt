use Rattle.entity_set.proofs.KeysFacts.{below-intersection}
use Rattle.entity_set.proofs.set.EntitySet.intersect_with.Goals as goal

pub invariant_of-self : goal.invariant_of-self
invariant_of-self g c = below-intersection _ _ _ _ c.intersect_with.ensures.members c.self.invariant
