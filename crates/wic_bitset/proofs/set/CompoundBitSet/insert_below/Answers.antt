use Rattle.std.proofs.Common.{sym, subst}
use Rattle.wic_base.specs.Sets.{IsGreatest}
use Rattle.wic_bitset.proofs.set.CompoundBitSet.insert_below.Goals as goal

pub invariant_of-self : goal.invariant_of-self
invariant_of-self g c = (
  c.insert_into.ensures.marks,
  subst (λ s. IsGreatest s c.greatest_with.result) (sym c.insert_into.ensures.members)
      (c.greatest_with.ensures c.self.inside.words.members c.self.invariant.1),
)
