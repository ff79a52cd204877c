use Rattle.std.proofs.Common.{arith}
use Rattle.wic_bitset.proofs.SummaryFacts.{Summarizes-none}
use Rattle.wic_bitset.proofs.set.CompoundBitSet.new.Goals as goal

pub invariant_of-result : goal.invariant_of-result
invariant_of-result g c = (
  Summarizes-none g.T.ScalarBitSetStorage.width _ _ _ (omega (arith, c.new.ensures.count)) c.new.ensures.members c.new-2.ensures.members
      (omega (arith, c.new.ensures.count)),
  c.new.ensures.members,
)
