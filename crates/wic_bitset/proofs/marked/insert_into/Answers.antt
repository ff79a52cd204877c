use Rattle.std.proofs.Common.{◌/◌, ap, subst, ◌∙◌}
use Rattle.std.specs.FinSet.{insert}
use Rattle.std.proofs.lemmas.Bool.{iff_false}
use Rattle.std.proofs.lemmas.Nat.{div_below}
use Rattle.wic_bitset.specs.Words.{IsWordEmpty}
use Rattle.wic_bitset.proofs.SummaryFacts.{Summarizes-insert, Summarizes-insert_filled}
use Rattle.wic_bitset.proofs.marked.insert_into.Goals as goal
use Rattle.wic_bitset.proofs.marked.insert_into.Goals.{then-is_word_empty, else-is_word_empty}

pub returns-clause-marks : goal.returns-clause-marks
returns-clause-marks g c =
    let w = g.T.ScalarBitSetStorage.width in
    let set = g.S.NumberSet in
    let old = c.args.marks.now in
    let at = c.width.ensures.value in
    let within = div_below c.args.i w _ g.T.ScalarBitSetStorage.width_within.positive c.requires.within in
    elim c.if-is_word_empty.branch [
      | then-is_word_empty b ↦ Summarizes-insert w c.args.i _ _ (set.members old) _ (set.end old) _ c.requires.marks
          c.insert-2.ensures.count (ap set.end b.marks-is ∙ b.insert.ensures.end) within c.requires.number c.insert-2.ensures.members
          (ap set.members b.marks-is ∙ b.insert.ensures.members ∙ ap (λ n. insert (set.members old) (c.args.i / n)) at)
      | else-is_word_empty b ↦ Summarizes-insert_filled w c.args.i _ _ (set.members old) _ (set.end old) _ c.requires.marks
          c.insert-2.ensures.count (ap set.end b.marks-is) within c.requires.number c.insert-2.ensures.members (ap set.members b.marks-is)
          (subst (λ n. IsWordEmpty w c.args.words.now.members (c.args.i / n) → ⊥) at
          (iff_false c.is_word_empty.ensures b.if-is_word_empty.false))
    ]
