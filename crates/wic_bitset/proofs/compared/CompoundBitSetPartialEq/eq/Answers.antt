use Rattle.wic_bitset.proofs.RisingFacts.{rising_from_same}
use Rattle.wic_bitset.proofs.compared.CompoundBitSetPartialEq.eq.Goals as goal

pub returns-clause-value : goal.returns-clause-value
returns-clause-value g c = rising_from_same _ _ _ c.has_same_members.ensures
