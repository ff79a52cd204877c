use Rattle.wic_bitset.proofs.CombinationFacts.{difference_is}
use Rattle.wic_bitset.proofs.set.CompoundBitSet.subtract.Goals as goal

pub returns-clause-members : goal.returns-clause-members
returns-clause-members g c = difference_is _ _ _ c.combine.ensures.members
