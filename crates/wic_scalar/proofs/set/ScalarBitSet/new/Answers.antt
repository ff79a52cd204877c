use Rattle.wic_scalar.proofs.CallFacts.{set_of-zero}
use Rattle.wic_scalar.proofs.set.ScalarBitSet.new.Goals as goal

pub returns : goal.returns
returns g c = set_of-zero _ _ c.zero.ensures
