use Rattle.wic_scalar.proofs.CallFacts.{remove_from_and}
use Rattle.wic_scalar.proofs.set.ScalarBitSet.take_out.Goals as goal

pub returns : goal.returns
returns g c = remove_from_and _ _ _ _ _ _ c.bit.ensures c.bit_not.ensures c.bit_and-self.ensures
