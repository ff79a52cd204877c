use Rattle.entity_set.proofs.KeysFacts.{below-remove}
use Rattle.entity_set.proofs.set.EntitySet.remove.Goals as goal

pub invariant_of-self : goal.invariant_of-self
invariant_of-self g c = below-remove _ _ _ _ c.remove.ensures.members c.self.invariant
