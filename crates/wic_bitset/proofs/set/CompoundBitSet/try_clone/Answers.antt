use Rattle.std.proofs.Common.{sym, subst, arith}
use Rattle.wic_bitset.specs.Greatest.{IsMax}
use Rattle.wic_bitset.proofs.SummaryFacts.{Summarizes-grown}
use Rattle.wic_bitset.proofs.set.CompoundBitSet.try_clone.Goals as goal

pub invariant_of-result : goal.invariant_of-result
invariant_of-result g c =
    let old = c.self.invariant.0 in
    let words = c.in_ok-words.ensures in
    let summary = c.in_ok-summary.ensures in (
      Summarizes-grown g.T.ScalarBitSetStorage.width _ _ _ _ _ _ old words.members summary.members (omega (arith, words.count))
          (omega (arith, old.few, words.count)) (omega (arith, old.reach, words.count, summary.end)),
      subst (λ s. IsMax s c.self.inside.max) (sym words.members) c.self.invariant.1,
    )
