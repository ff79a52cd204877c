use Rattle.std.proofs.Common.{sym, subst, ◌∙◌}
use Rattle.std.proofs.Common.{◌+◌, ◌/◌}
use Rattle.std.specs.FinSet.{remove}
use Rattle.wic_bitset.specs.Greatest.{IsMax}
use Rattle.wic_bitset.specs.Words.{EndsBefore}
use Rattle.wic_bitset.proofs.GreatestFacts.{ends-remove_greatest, max-remove_other}
use Rattle.wic_bitset.proofs.set.CompoundBitSet.remove.Goals as goal

pub invariant_of-self-else-eq : goal.invariant_of-self-else-eq
invariant_of-self-else-eq g c = (
  c.remove_from-was_present.ensures.marks,
  subst (λ s. IsMax s c.self.inside.max) (sym c.remove_from-was_present.ensures.members)
      (max-remove_other c.self.inside.words.members c.args.i c.self.inside.max c.self.invariant.1 (sym c.eq.ensures ∙ c.if-eq.false)),
)

pub greatest_up_to_word-self-inside-requires-clause-last : goal.greatest_up_to_word-self-inside-requires-clause-last
greatest_up_to_word-self-inside-requires-clause-last g c =
    let w = g.T.ScalarBitSetStorage.width in
    subst (λ s. EndsBefore w s (c.args.i / c.width.result + 1)) (sym c.remove_from-was_present.ensures.members)
    (subst (λ v. EndsBefore w (remove c.self.inside.words.members c.args.i) (c.args.i / v + 1)) (sym c.width.ensures.value)
    (ends-remove_greatest w c.args.i c.self.inside.words.members c.self.inside.max g.T.ScalarBitSetStorage.width_within.positive
    c.self.invariant.1 (sym c.eq.ensures ∙ c.if-eq.true)))
