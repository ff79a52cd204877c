use Rattle.std.proofs.Common.{◌/◌, ap, subst, sym, refl, ◌∙◌, arith}
use Rattle.std.specs.FinSet.{remove}
use Rattle.std.proofs.lemmas.Bool.{iff_false}
use Rattle.wic_base.proofs.SetFacts.{remove_absent}
use Rattle.wic_bitset.specs.Words.{IsWordEmpty}
use Rattle.wic_bitset.proofs.SummaryFacts.{Summarizes-emptied, Summarizes-grown, Summarizes-kept}
use Rattle.wic_bitset.proofs.marked.remove_from.Goals as goal

pub returns-then-is_word_empty-clause-marks : goal.returns-then-is_word_empty-clause-marks
returns-then-is_word_empty-clause-marks g c =
    let w = g.T.ScalarBitSetStorage.width in
    let at = c.width.ensures.value in
    Summarizes-emptied w c.args.i _ _ _ _ _ _ c.requires c.remove.ensures.count c.remove-then-is_word_empty.ensures.end
    c.remove.ensures.members
    (c.remove-then-is_word_empty.ensures.members ∙ ap (λ n. remove (g.S.NumberSet.members c.args.marks.now) (c.args.i / n)) at)
    (subst (λ n. IsWordEmpty w c.remove.new.self.members (c.args.i / n)) at
    (c.is_word_empty.ensures.0 c.if-is_word_empty.true))

pub returns-else-is_word_empty-clause-marks : goal.returns-else-is_word_empty-clause-marks
returns-else-is_word_empty-clause-marks g c =
    let w = g.T.ScalarBitSetStorage.width in
    Summarizes-kept w c.args.i _ _ _ _ _ _ c.requires c.remove.ensures.count refl c.remove.ensures.members refl
    (subst (λ n. IsWordEmpty w c.remove.new.self.members (c.args.i / n) → ⊥) c.width.ensures.value
    (iff_false c.is_word_empty.ensures c.if-is_word_empty.false))

pub returns-then-not-remove-clause-marks : goal.returns-then-not-remove-clause-marks
returns-then-not-remove-clause-marks g c =
    let count = c.remove.ensures.count in
    Summarizes-grown g.T.ScalarBitSetStorage.width _ _ _ _ _ _ c.requires
    (c.remove.ensures.members ∙ remove_absent _ c.args.i (sym c.remove.ensures.present ∙ c.if-not-remove.true)) refl (omega arith)
    (omega (arith, c.requires.few)) (omega (arith, c.requires.reach))
