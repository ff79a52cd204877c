-- What the marks tell of the least member from a number on.
use Rattle.std.proofs.Common.{⊎_elim, ◌≡◌, ℕ, ◌+◌, ◌*◌, ◌/◌, ◌<◌, true, Option, Some, None, refl, sym, ap, ◌∙◌, arith}
use Rattle.std.specs.Ordering.{nat_cmp}
use Rattle.std.specs.FinSet.{FinSet, contains}
use Rattle.std.proofs.lemmas.Bool.{cases_lt, cases_Bool, false_from_ne_true}
use Rattle.std.proofs.lemmas.Nat.{div-mul-add, div-add-mod'}
use Rattle.wic_bitset.specs.From.{NoneFrom, IsLeastFrom, IsMinFrom, NoneInWord, IsMinInWord, NoneUntil}
use Rattle.wic_bitset.specs.Summary.{Summarizes}
use Rattle.wic_bitset.specs.Words.{Words}
use Rattle.wic_bitset.proofs.FromFacts.{least_from-next}
use Rattle.wic_bitset.proofs.SummaryFacts.{no_empty_word}

module _ (w : ℕ) (words : Words) (marks : FinSet nat_cmp) (end : ℕ) (m : Summarizes w words marks end) where
  -- words that aren't marked have no member
  pub none_until-marks : (i k : ℕ) → NoneUntil w words.members i (i / w + 1) → IsLeastFrom marks (i / w + 1) k
      → NoneUntil w words.members i k
  none_until-marks i k before least q up within = ⊎_elim
      (λ less. before q up less)
      (λ le. false_from_ne_true (contains words.members q) (λ has. absurd (⊎_elim
      (λ yes. let h = least.least (q / w) le yes in omega arith)
      (λ no. let none = (m.digits (q / w)).0 no q refl in cc)
      (cases_Bool (contains marks (q / w))))))
      (cases_lt (q / w) (i / w + 1))

  pub none_from-marks : (i : ℕ) → NoneUntil w words.members i (i / w + 1) → NoneFrom marks (i / w + 1) → NoneFrom words.members i
  none_from-marks i before none q up = ⊎_elim
      (λ less. before q up less)
      (λ le. (m.digits (q / w)).0 (none (q / w) le) q refl)
      (cases_lt (q / w) (i / w + 1))

  -- a marked word has a member
  mark_filled : 0 < w → (k : ℕ) → contains marks k ≡ true → NoneInWord w words.members (k * w) → ⊥
  mark_filled some k has none = no_empty_word w words marks end m k has (λ q at.
      let word : k * w / w ≡ k = let e : k * w + 0 ≡ k * w = omega arith in sym (ap (λ x. x / w) e) ∙ div-mul-add k w 0 some in
      let place = div-add-mod' q w in
      let start : q / w * w ≡ k * w = ap (λ k. k * w) at in
      none q (omega arith) (at ∙ sym word))

  -- the least of the next marked word
  pub min_by_marks : 0 < w → (i k : ℕ) (r : Option ℕ) → NoneUntil w words.members i (i / w + 1) → IsLeastFrom marks (i / w + 1) k
      → IsMinInWord w words.members (k * w) r → IsMinFrom words.members i r
  min_by_marks some i k None before least found = absurd (mark_filled some k least.member found)
  min_by_marks some i k (Some x) before least found =
      let up = least.from in
      least_from-next w words.members i k x some (omega arith) (none_until-marks i k before least) found

-- ---- marked words read one after the other

-- P holds of each number of the marked words below word `next`
abbrev pub HoldsMarked : ℕ → FinSet nat_cmp → ℕ → (ℕ → Type 0) → Type 0
HoldsMarked w marks next P = (i : ℕ) → contains marks (i / w) ≡ true → i / w < next → P i
