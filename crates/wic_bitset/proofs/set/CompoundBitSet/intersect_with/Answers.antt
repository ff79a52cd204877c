use Rattle.wic_bitset.proofs.CombinationFacts.{intersection_is}
use Rattle.wic_bitset.proofs.set.CompoundBitSet.intersect_with.Goals as goal

pub returns-clause-members : goal.returns-clause-members
returns-clause-members g c = intersection_is _ _ _ c.combine.ensures.members
