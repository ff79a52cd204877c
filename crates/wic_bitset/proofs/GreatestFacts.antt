-- The greatest member as a number is put in or taken out, and from one word to the next.
use Rattle.std.proofs.Common.{⊎_elim, ◌≡◌, ◌≢◌, ℕ, ◌+◌, ◌*◌, ◌/◌, ◌<◌, ◌≤◌, true, false, max, Bool, not, Option, Some, None, is_some}
use Rattle.std.proofs.Common.{IsNone, IsTrue, refl, ◌↔◌, sym, ap, ◌∙◌, arith}
use Rattle.std.specs.Prelude.{nat_eq, IfSome}
use Rattle.std.proofs.Math.Nat.{div-lt_iff_lt-mul}
use Rattle.std.specs.Option.{option_eq}
use Rattle.std.specs.Ordering.{nat_cmp}
use Rattle.std.specs.FinSet.{FinSet, empty, contains, insert, remove}
use Rattle.std.proofs.lemmas.Bool.{cases_eq, cases_lt, false_from_ne_true}
use Rattle.std.proofs.lemmas.Bool.Decides.{nat_tests}
use Rattle.wic_bitset.specs.Greatest.{IsMax}
use Rattle.wic_base.specs.Sets.{IsGreatest}
use Rattle.wic_bitset.specs.Words.{EndsBefore, IsGreatestOfWord}
use Rattle.wic_bitset.proofs.DivisionFacts.{div_mono}
use Rattle.wic_base.proofs.SetFacts.{empty_of_none, none_in_empty, remove_absent, there_after_insert, same_after_insert}
use Rattle.wic_base.proofs.SetFacts.{same_after_remove, was_before_remove}

-- there is a greatest member, or the set is empty
pub max-none : (s : FinSet nat_cmp) (r : Option ℕ) → IsMax s r → IsNone r ↔ (s ≡ empty)
max-none s None none = (λ _. none, λ _. refl)
max-none s (Some x) last = (λ no. absurd (cc), λ none. absurd (let no = none_in_empty s none x in let yes = last.member in cc))

-- it stands in one of the words
pub max-below : (w count : ℕ) (s : FinSet nat_cmp) (r : Option ℕ) → 0 < w → EndsBefore w s count → IsMax s r → IfSome r (λ x. x < count * w)
max-below w count s None some ends none = tt
max-below w count s (Some x) some ends last = (div-lt_iff_lt-mul some).0 (ends x last.member)

-- if it stands in one of the first `count` words, so does each member
pub ends-within : (w count : ℕ) (s : FinSet nat_cmp) (m : ℕ) → 0 < w → IsGreatest s m → m < count * w → EndsBefore w s count
ends-within w count s m some last below i has = (div-lt_iff_lt-mul some).1 (let le = last.greatest i has in omega arith)

-- the same as the first, by a test that is true if there is none
pub max-none_test : (s : FinSet nat_cmp) (r : Option ℕ) (b : Bool) → IsMax s r → is_some r ≡ not b → IsTrue b ↔ (s ≡ empty)
max-none_test s None true none test = (λ _. none, λ _. refl)
max-none_test s None false none test = absurd (cc)
max-none_test s (Some x) true last test = absurd (cc)
max-none_test s (Some x) false last test =
    (λ yes. absurd (cc), λ none. absurd (let no = none_in_empty s none x in let yes = last.member in cc))

-- the only number
pub greatest-insert_first : (s : FinSet nat_cmp) (i : ℕ) → s ≡ empty → IsGreatest (insert s i) i
greatest-insert_first s i none = record {
  member = there_after_insert s i;
  greatest = λ q has. ⊎_elim
      (λ same. omega arith)
      (λ apart. absurd (let absent = none_in_empty s none q in let old = same_after_insert s i q apart in cc))
      (cases_eq q i);
}

-- one number more
pub greatest-insert : (s : FinSet nat_cmp) (m i : ℕ) → IsGreatest s m → IsGreatest (insert s i) (max m i)
greatest-insert s m i old = record {
  member = ⊎_elim
      (λ same. let e : max m i ≡ i = omega arith in ap (contains (insert s i)) e ∙ there_after_insert s i)
      (λ less. ⊎_elim
      (λ below. let e : max m i ≡ i = omega arith in ap (contains (insert s i)) e ∙ there_after_insert s i)
      (λ above. let e : max m i ≡ m = omega arith in
      ap (contains (insert s i)) e ∙ same_after_insert s i m less ∙ old.member)
      (cases_lt m i))
      (cases_eq m i);
  greatest = λ q has. ⊎_elim
      (λ same. omega arith)
      (λ apart. let h : q ≤ m = old.greatest q (sym (same_after_insert s i q apart) ∙ has) in omega arith)
      (cases_eq q i);
}

-- another number is taken out
pub max-remove_other : (s : FinSet nat_cmp) (i : ℕ) (r : Option ℕ) → IsMax s r → option_eq nat_eq r (Some i) ≡ false
    → IsMax (remove s i) r
max-remove_other s i None none other = remove_absent s i (none_in_empty s none i) ∙ none
max-remove_other s i (Some m) old other =
    let apart : m ≢ i = λ same. absurd (grind (arith, nat_tests)) in record {
      member = same_after_remove s i m apart ∙ old.member;
      greatest = λ q has. old.greatest q (was_before_remove s i q has);
    }

-- the greatest is taken out: no member stands after its word
pub ends-remove_greatest : (w i : ℕ) (s : FinSet nat_cmp) (r : Option ℕ) → 0 < w → IsMax s r → option_eq nat_eq r (Some i) ≡ true
    → EndsBefore w (remove s i) (i / w + 1)
ends-remove_greatest w i s None some none it q has = absurd (cc)
ends-remove_greatest w i s (Some m) some last it q has = ⊎_elim
    (λ same.
    let le = last.greatest q (was_before_remove s i q has) in
    let up = div_mono w q i some (omega arith) in
    omega arith)
    (λ apart. absurd (grind (arith, nat_tests)))
    (cases_eq m i)

-- ---- from one word to the next

-- the greatest member of the last word that has one
pub greatest_of_last_word : (w : ℕ) (s : FinSet nat_cmp) (k x : ℕ) → 0 < w → EndsBefore w s (k + 1) → IsGreatestOfWord w s k x
    → IsGreatest s x
greatest_of_last_word w s k x some ends last = record {
  member = last.member;
  greatest = λ i has. ⊎_elim
      (λ above.
      let up = div_mono w x i some (omega arith) in
      let within = ends i has in
      let at = last.word in
      last.greatest i (omega arith) has)
      (λ le. le)
      (cases_lt x i);
}

-- an empty set ends before its first word
pub ends-empty : (w : ℕ) (s : FinSet nat_cmp) → s ≡ empty → EndsBefore w s 0
ends-empty w s none i has = absurd (let no = none_in_empty s none i in cc)

-- no words are left
pub ends-none : (w : ℕ) (s : FinSet nat_cmp) → EndsBefore w s 0 → s ≡ empty
ends-none w s ends = empty_of_none s (λ i. false_from_ne_true (contains s i) (λ has. absurd (let h = ends i has in omega arith)))
