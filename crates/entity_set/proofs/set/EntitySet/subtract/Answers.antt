use Rattle.entity_set.proofs.KeysFacts.{below-difference}
use Rattle.entity_set.proofs.set.EntitySet.subtract.Goals as goal

pub invariant_of-self : goal.invariant_of-self
invariant_of-self g c = below-difference _ _ _ _ c.subtract.ensures.members c.self.invariant
