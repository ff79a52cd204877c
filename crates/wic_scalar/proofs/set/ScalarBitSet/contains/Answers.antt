use Rattle.wic_scalar.proofs.CallFacts.{contains_from_test}
use Rattle.wic_scalar.proofs.set.ScalarBitSet.contains.Goals as goal

pub returns : goal.returns
returns g c = contains_from_test _ _ _ _ _ _ _ c.requires c.bit.ensures c.bit_and.ensures c.zero.ensures c.is_equal.ensures
