-- Two sets compared word by word.
use Rattle.std.proofs.Common.{⊎_elim, ◌≡◌, ℕ, ◌+◌, ◌*◌, ◌/◌, ◌%◌, ◌<◌, Bool, sym, ap, ◌∙◌}
use Rattle.std.proofs.Common.{arith, IsTrue, ◌↔◌, max, refl}
use Rattle.std.specs.Ordering.{nat_cmp}
use Rattle.std.specs.Cmp.{nat_cmp_total}
use Rattle.std.specs.FinSet.{FinSet, contains, same_set, nat_cmp-IsAntisymmetric}
use Rattle.std.proofs.lemmas.Bool.{cases_eq, cases_lt, cases_Bool, false_from_ne_true}
use Rattle.std.proofs.lemmas.Nat.{div-mul-add}
use Rattle.wic_scalar.specs.Scalar.{set_of}
use Rattle.wic_scalar.proofs.MemberFacts.{contains_below}
use Rattle.wic_scalar.proofs.CallFacts.{set_of-same}
use Rattle.wic_bitset.specs.From.{NoneFrom}
use Rattle.wic_bitset.specs.Summary.{filled_words, Summarizes}
use Rattle.wic_bitset.specs.Words.{Words, EndsBefore, IsWordOf, SameWord, SameWordsBelow}
use Rattle.wic_bitset.proofs.MarkedFacts.{HoldsMarked}
use Rattle.wic_bitset.proofs.SummaryFacts.{summary_is_filled_words}
use Rattle.wic_bitset.proofs.WordFacts.{by_digit}

-- the test of two words
pub same_word : (w k m n : ℕ) (s t : FinSet nat_cmp) (r : Bool) → 0 < w → IsWordOf w s k m → IsWordOf w t k n
    → (IsTrue r ↔ (set_of w m ≡ set_of w n)) → IsTrue r ↔ SameWord w k s t
same_word w k m n s t r some first second test = (
  λ yes i at. by_digit w s k m some first i at ∙ ap (λ u. contains u (i % w)) (test.0 yes) ∙ sym (by_digit w t k n some second i at),
  λ same. test.1 (set_of-same w m n (λ j low.
      sym (contains_below w m j low) ∙ first j low ∙ same (k * w + j) (div-mul-add k w j low)
      ∙ sym (second j low) ∙ contains_below w n j low)),
)

-- one more word
pub same_words_more : (w k : ℕ) (s t : FinSet nat_cmp) → SameWord w k s t → SameWordsBelow w k s t → SameWordsBelow w (k + 1) s t
same_words_more w k s t word before i below = ⊎_elim
    (λ at. word i at)
    (λ apart. before i (omega arith))
    (cases_eq (i / w) k)

-- sets that have the same members in all words
pub same_words_all : (w m n : ℕ) (s t : FinSet nat_cmp) → EndsBefore w s m → EndsBefore w t n → SameWordsBelow w (max m n) s t → s ≡ t
same_words_all w m n s t first second same = same_set nat_cmp_total nat_cmp-IsAntisymmetric _ _ (λ i. ⊎_elim
    (λ below. same i below)
    (λ above.
    let one = false_from_ne_true (contains s i) (λ has. absurd (let h = first i has in omega arith)) in
    let other = false_from_ne_true (contains t i) (λ has. absurd (let h = second i has in omega arith)) in
    one ∙ sym other)
    (cases_lt (i / w) (max m n)))

module _ (w : ℕ) (words words' : Words) (marks marks' : FinSet nat_cmp) (end end' : ℕ) (first : Summarizes w words marks end)
    (second : Summarizes w words' marks' end') where
  -- equal sets have equal marks
  pub same_marks : words.members ≡ words'.members → marks ≡ marks'
  same_marks same = summary_is_filled_words w words marks end first ∙ ap (filled_words w) same
      ∙ sym (summary_is_filled_words w words' marks' end' second)

  -- sets with the same marks are equal if they have the same members in the marked words, of which none is left
  pub same_by_marks : (next : ℕ) → marks ≡ marks' → NoneFrom marks next
      → HoldsMarked w marks next (λ q. contains words.members q ≡ contains words'.members q)
      → words.members ≡ words'.members
  same_by_marks next equal none same = same_set nat_cmp_total nat_cmp-IsAntisymmetric _ _ (λ q. ⊎_elim
      (λ marked. ⊎_elim
      (λ below. same q marked below)
      (λ above. absurd (let no = none (q / w) above in cc))
      (cases_lt (q / w) next))
      (λ unmarked.
      (first.digits (q / w)).0 unmarked q refl
      ∙ sym ((second.digits (q / w)).0 (ap (λ m. contains m (q / w)) (sym equal) ∙ unmarked) q refl))
      (cases_Bool (contains marks (q / w))))
