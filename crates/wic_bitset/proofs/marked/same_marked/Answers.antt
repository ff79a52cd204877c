use Rattle.std.proofs.Common.{refl}
use Rattle.std.proofs.lemmas.Bool.{iff_false}
use Rattle.wic_bitset.proofs.SameFacts.{same_by_marks, same_marks}
use Rattle.wic_bitset.proofs.marked.same_marked.Goals as goal

pub returns-then-not-is_same : goal.returns-then-not-is_same
returns-then-not-is_same g c = (
  λ no. absurd (cc),
  λ same. absurd (iff_false c.is_same.ensures c.if-not-is_same.true
      (same_marks g.T.ScalarBitSetStorage.width _ _ _ _ _ _ c.requires.marks c.requires.other_marks same)),
)

pub returns : goal.returns
returns g c =
    let same = same_by_marks g.T.ScalarBitSetStorage.width _ _ _ _ _ _ c.requires.marks c.requires.other_marks c.loop-k.next
    (c.is_same.ensures.0 c.if-not-is_same.false) c.in_default.ensures c.loop-k.invariant.same in
    (λ _. same, λ _. refl)
