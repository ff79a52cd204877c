use Rattle.entity_set.proofs.KeysFacts.{below-remove}
use Rattle.entity_set.proofs.set.EntitySet.pop.Goals as goal

pub invariant_of-self-2 : goal.invariant_of-self-2
invariant_of-self-2 g c = below-remove _ _ _ _ c.in_ok-number.ensures.members c.self.invariant
