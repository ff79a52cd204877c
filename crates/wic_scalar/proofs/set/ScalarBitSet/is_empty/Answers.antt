use Rattle.wic_scalar.proofs.CallFacts.{is_empty_from_test}
use Rattle.wic_scalar.proofs.set.ScalarBitSet.is_empty.Goals as goal

pub returns : goal.returns
returns g c = is_empty_from_test _ _ _ _ c.zero.ensures c.is_equal.ensures
