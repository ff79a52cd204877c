use Rattle.wic_scalar.proofs.CallFacts.{set_of-zero}
use Rattle.wic_scalar.proofs.set.ScalarBitSet.clear.Goals as goal

pub returns : goal.returns
returns g c = set_of-zero _ _ c.zero-self.ensures
