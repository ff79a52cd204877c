-- Words of one width as one set: what is in it, and what a digit more changes.
use Rattle.std.proofs.Common.{⊎_elim, ◌≡◌, ◌≢◌, ℕ, zero, suc, ◌+◌, ◌*◌, ◌/◌, ◌%◌, ◌<◌, ◌≤◌, true, false, List, []}
use Rattle.std.proofs.Common.{◌∷◌, ◌++◌, length-append, length, map, get_or, set, Option, Some, None, slice_get, refl, sym, ap, subst}
use Rattle.std.proofs.Common.{◌∙◌, ◌↔◌, arith}
use Rattle.std.proofs.Common.{take, min, length-take}
use Rattle.std.proofs.lemmas.List.{take-map, get_or-take}
use Rattle.std.specs.Ordering.{nat_cmp}
use Rattle.std.specs.Cmp.{nat_cmp_total}
use Rattle.std.specs.FinSet.{FinSet, empty, contains, insert, remove, same_set, nat_cmp-IsAntisymmetric}
use Rattle.std.proofs.lemmas.Bool.{cases_eq, cases_lt}
use Rattle.std.proofs.lemmas.Bool.Decides.{nat_tests}
use Rattle.std.proofs.lemmas.List.{length-map, map-append, get_or_at, get_or_append_left, get_or-set_same, get_or-set_other, map-set}
use Rattle.std.proofs.lemmas.Nat.{div_below, mod_below, le-div, div-mul-add, mod-mul-add, div-add-mod'}
use Rattle.wic_scalar.specs.Digits.{is_one}
use Rattle.wic_base.specs.Sets.{IsGreatest}
use Rattle.wic_scalar.specs.Scalar.{set_of}
use Rattle.wic_scalar.proofs.DigitFacts.{is_one-zero}
use Rattle.wic_scalar.proofs.MemberFacts.{contains_below, none_from_empty}
use Rattle.wic_scalar.proofs.CallFacts.{set_of-none}
use Rattle.wic_base.proofs.SetFacts.{contains-filter_range, empty_of_none, there_after_insert, same_after_insert, gone_after_remove}
use Rattle.wic_base.proofs.SetFacts.{none_in_empty, same_after_remove}
use Rattle.wic_bitset.specs.Words.{has, set_of_words, AreFirstWords, EmptiesWord, EndsBefore, IsGreatestOfWord, IsWordOf, IsWordEmpty}

-- ---- the compound set

past_end : (words : List ℕ) (k : ℕ) → length words ≤ k → get_or words k 0 ≡ 0
past_end [] k past = refl
past_end (x ∷ words) zero past = absurd (omega arith)
past_end (x ∷ words) (suc k) past = past_end words k (omega arith)

-- past its end a list has no element
pub none_past : {X : Type 0} (items : List X) (k : ℕ) → length items ≤ k → slice_get items k ≡ None
none_past [] k past = refl
none_past (x ∷ items) zero past = absurd (omega arith)
none_past (x ∷ items) (suc k) past = none_past items k (omega arith)

value_or : {X : Type 0} → X → Option X → X
value_or d None = d
value_or d (Some v) = v

module _ {X : Type 0} (f : X → ℕ) where
  -- the number of word k
  pub map_at : (items : List X) (k : ℕ) (x : X) → slice_get items k ≡ Some x → get_or (map f items) k 0 ≡ f x
  unfolding value_or
  map_at [] k x found = absurd (cc)
  map_at (y ∷ items) zero x found = ap f (ap (value_or y) found)
  map_at (y ∷ items) (suc k) x found = map_at items k x found

  -- past the last word it is 0
  pub map_past : (items : List X) (k : ℕ) → slice_get items k ≡ None → get_or (map f items) k 0 ≡ 0
  map_past [] k none = refl
  map_past (y ∷ items) zero none = absurd (cc)
  map_past (y ∷ items) (suc k) none = map_past items k none

-- a number is a member if the digit of its word is 1
pub contains-set_of_words : (w : ℕ) (words : List ℕ) (q : ℕ) → 0 < w → contains (set_of_words w words) q ≡ has w words q
unfolding set_of_words
contains-set_of_words w words q some = contains-filter_range (has w words) 0 (length words * w) q ∙ ⊎_elim
    (λ below. grind (arith, nat_tests))
    (λ above.
    let past : length words ≤ q / w = le-div (length words) q w some above in
    let none : has w words q ≡ false = ap (λ x. is_one x (q % w)) (past_end words (q / w) past) ∙ is_one-zero (q % w) in
    grind (arith, nat_tests))
    (cases_lt q (length words * w))

-- ---- word k becomes m

module _ (w : ℕ) (words : List ℕ) (k m : ℕ) (some : 0 < w) (within : k < length words) where
  -- a number of word k, now
  pub here_now : (q : ℕ) → q / w ≡ k → contains (set_of_words w (set words k m)) q ≡ contains (set_of w m) (q % w)
  here_now q here =
      let word : get_or (set words k m) (q / w) 0 ≡ m = ap (λ x. get_or (set words k m) x 0) here ∙ get_or-set_same words k m 0 within in
      contains-set_of_words w (set words k m) q some ∙ ap (λ x. is_one x (q % w)) word
      ∙ sym (contains_below w m (q % w) (mod_below q w some))

  -- a number of word k, before
  pub here_before : (q : ℕ) → q / w ≡ k → contains (set_of_words w words) q ≡ contains (set_of w (get_or words k 0)) (q % w)
  here_before q here =
      contains-set_of_words w words q some ∙ ap (λ x. is_one (get_or words x 0) (q % w)) here
      ∙ sym (contains_below w (get_or words k 0) (q % w) (mod_below q w some))

  -- any other number
  pub elsewhere : (q : ℕ) → q / w ≢ k → contains (set_of_words w (set words k m)) q ≡ contains (set_of_words w words) q
  elsewhere q apart =
      contains-set_of_words w (set words k m) q some
      ∙ ap (λ x. is_one x (q % w)) (get_or-set_other words k (q / w) m 0 apart)
      ∙ sym (contains-set_of_words w words q some)

  -- i alone is in or out otherwise than before, in the word and in the set t
  changed_one : (t : FinSet nat_cmp) (i : ℕ) → i / w ≡ k → contains (set_of w m) (i % w) ≡ contains t i
      → ((d : ℕ) → d ≢ i % w → contains (set_of w m) d ≡ contains (set_of w (get_or words k 0)) d)
      → ((q : ℕ) → q ≢ i → contains t q ≡ contains (set_of_words w words) q) → set_of_words w (set words k m) ≡ t
  changed_one t i at one digits others = same_set nat_cmp_total nat_cmp-IsAntisymmetric _ _ (λ q. ⊎_elim
      (λ same. ap (contains (set_of_words w (set words k m))) same ∙ here_now i at ∙ one ∙ ap (contains t) (sym same))
      (λ apart. ⊎_elim
      (λ here. here_now q here
      ∙ digits (q % w) (λ digit. apart (sym (div-add-mod' q w) ∙ ap (λ n. n * w + q % w) (here ∙ sym at) ∙ ap (λ d. i / w * w + d) digit
      ∙ div-add-mod' i w))
      ∙ sym (here_before q here) ∙ sym (others q apart))
      (λ other. elsewhere q other ∙ sym (others q apart))
      (cases_eq (q / w) k))
      (cases_eq q i))

-- ---- what the calls of the plain set stand on

module _ {X : Type 0} (f : X → ℕ) where
  -- a number of a word is a member of the set if its place is a member of the word
  pub in_word : (w i : ℕ) (items : List X) (x : X) → 0 < w → slice_get items (i / w) ≡ Some x
      → contains (set_of_words w (map f items)) i ≡ contains (set_of w (f x)) (i % w)
  in_word w i items x some found =
      contains-set_of_words w (map f items) i some ∙ ap (λ n. is_one n (i % w)) (map_at f items (i / w) x found)
      ∙ sym (contains_below w (f x) (i % w) (mod_below i w some))

  -- a number that has no word is no member
  pub in_no_word : (w i : ℕ) (items : List X) → 0 < w → slice_get items (i / w) ≡ None → contains (set_of_words w (map f items)) i ≡ false
  in_no_word w i items some none =
      contains-set_of_words w (map f items) i some ∙ ap (λ n. is_one n (i % w)) (map_past f items (i / w) none) ∙ is_one-zero (i % w)

  -- a word that is found stands below the count of words
  pub below_length : (items : List X) (k : ℕ) (x : X) → slice_get items k ≡ Some x → k < length (map f items)
  below_length [] k x found = absurd (cc)
  below_length (y ∷ items) zero x found = omega arith
  below_length (y ∷ items) (suc k) x found = let rest = below_length items k x found in omega arith

  -- i is put into its word, and so into the set
  pub put_in_word : (w i : ℕ) (items : List X) (x y : X) → 0 < w → slice_get items (i / w) ≡ Some x
      → set_of w (f y) ≡ insert (set_of w (f x)) (i % w)
      → set_of_words w (map f (set items (i / w) y)) ≡ insert (set_of_words w (map f items)) i
  put_in_word w i items x y some found put =
      let old = set_of_words w (map f items) in
      ap (set_of_words w) (map-set f items (i / w) y)
      ∙ changed_one w (map f items) (i / w) (f y) some (below_length items (i / w) x found) (insert old i) i refl
      (ap (λ s. contains s (i % w)) put ∙ there_after_insert (set_of w (f x)) (i % w) ∙ sym (there_after_insert old i))
      (λ d apart. ap (λ s. contains s d) put ∙ same_after_insert (set_of w (f x)) (i % w) d apart
      ∙ ap (λ n. contains (set_of w n) d) (sym (map_at f items (i / w) x found)))
      (same_after_insert old i)

  -- i is taken out of its word, and so of the set
  pub take_from_word : (w i : ℕ) (items : List X) (x y : X) → 0 < w → slice_get items (i / w) ≡ Some x
      → set_of w (f y) ≡ remove (set_of w (f x)) (i % w)
      → set_of_words w (map f (set items (i / w) y)) ≡ remove (set_of_words w (map f items)) i
  take_from_word w i items x y some found taken =
      let old = set_of_words w (map f items) in
      ap (set_of_words w) (map-set f items (i / w) y)
      ∙ changed_one w (map f items) (i / w) (f y) some (below_length items (i / w) x found) (remove old i) i refl
      (ap (λ s. contains s (i % w)) taken ∙ gone_after_remove (set_of w (f x)) (i % w) ∙ sym (gone_after_remove old i))
      (λ d apart. ap (λ s. contains s d) taken ∙ same_after_remove (set_of w (f x)) (i % w) d apart
      ∙ ap (λ n. contains (set_of w n) d) (sym (map_at f items (i / w) x found)))
      (same_after_remove old i)

-- no member stands above the words
pub below_capacity : (w : ℕ) (words : List ℕ) (i : ℕ) → 0 < w → contains (set_of_words w words) i ≡ true → i < length words * w
below_capacity w words i some there = ⊎_elim
    (λ below. below)
    (λ above.
    let past : length words ≤ i / w = le-div (length words) i w some above in
    let none : contains (set_of_words w words) i ≡ false =
    contains-set_of_words w words i some ∙ ap (λ x. is_one x (i % w)) (past_end words (i / w) past) ∙ is_one-zero (i % w) in
    absurd (cc))
    (cases_lt i (length words * w))

module _ {X : Type 0} (f : X → ℕ) where
  -- word k, digit by digit
  pub word_of : (w k : ℕ) (items : List X) (x : X) → slice_get items k ≡ Some x → IsWordOf w (set_of_words w (map f items)) k (f x)
  word_of w k items x found j low =
      let some : 0 < w = omega arith in
      let place : (k * w + j) / w ≡ k = div-mul-add k w j low in
      let digit : (k * w + j) % w ≡ j = mod-mul-add k w j low in
      sym (in_word f w (k * w + j) items x some (subst (λ q. slice_get items q ≡ Some x) (sym place) found)
      ∙ ap (contains (set_of w (f x))) digit)

  -- a word is the empty set if no member stands in it
  pub word_is_empty : (w k : ℕ) (items : List X) (x : X) → 0 < w → slice_get items k ≡ Some x
      → (set_of w (f x) ≡ empty) ↔ IsWordEmpty w (set_of_words w (map f items)) k
  word_is_empty w k items x some found = (
    λ none i at.
        let digit : is_one (f x) (i % w) ≡ false = none_from_empty w (f x) (i % w) none (mod_below i w some) in
        in_word f w i items x some (subst (λ q. slice_get items q ≡ Some x) (sym at) found)
        ∙ contains_below w (f x) (i % w) (mod_below i w some) ∙ digit,
    λ none. set_of-none w (f x)
        (λ j low. sym (contains_below w (f x) j low) ∙ word_of w k items x found j low ∙ none (k * w + j) (div-mul-add k w j low)),
  )

  -- no member stands in a word that is not there
  pub no_word_is_empty : (w k : ℕ) (items : List X) → 0 < w → slice_get items k ≡ None → IsWordEmpty w (set_of_words w (map f items)) k
  no_word_is_empty w k items some none i at = in_no_word f w i items some (subst (λ q. slice_get items q ≡ None) (sym at) none)

  -- if there is no word k, a word without members is word k
  pub no_word_of : (w k : ℕ) (items : List X) (n : ℕ) → slice_get items k ≡ None → set_of w n ≡ empty
      → IsWordOf w (set_of_words w (map f items)) k n
  no_word_of w k items n none clear j low =
      let some : 0 < w = omega arith in
      contains_below w n j low ∙ none_from_empty w n j clear low
      ∙ sym (no_word_is_empty w k items some none (k * w + j) (div-mul-add k w j low))

  -- word k becomes a word without members
  pub empties_word : (w k : ℕ) (items : List X) (y : X) → 0 < w → k < length items → set_of w (f y) ≡ empty
      → EmptiesWord w k (set_of_words w (map f items)) (set_of_words w (map f (set items k y)))
  empties_word w k items y some within none =
      let long : length (map f items) ≡ length items = length-map items f in
      let inside : k < length (map f items) = omega arith in
      let changed = map-set f items k y in record {
        here = λ i at. ap (λ ns. contains (set_of_words w ns) i) changed ∙ here_now w (map f items) k (f y) some inside i at
            ∙ none_in_empty (set_of w (f y)) none (i % w);
        elsewhere = λ i apart. ap (λ ns. contains (set_of_words w ns) i) changed
            ∙ elsewhere w (map f items) k (f y) some inside i apart;
      }

  -- a member stands below the count of words times the width
  pub within_words : (w i : ℕ) (items : List X) → 0 < w → contains (set_of_words w (map f items)) i ≡ true → i < length items * w
  within_words w i items some there = subst (λ n. i < n * w) (length-map items f) (below_capacity w (map f items) i some there)

  -- so each member has a word
  pub ends_of_words : (w : ℕ) (items : List X) → 0 < w → EndsBefore w (set_of_words w (map f items)) (length items)
  ends_of_words w items some i there = div_below i w (length items) some (within_words w i items some there)

-- one more word with no member changes no member
has_more : (w : ℕ) (words : List ℕ) (m q : ℕ) → 0 < w → ((j : ℕ) → j < w → is_one m j ≡ false) → has w (words ++ m ∷ []) q ≡ has w words q
has_more w words m q some none = ⊎_elim
    (λ below. ap (λ x. is_one x (q % w)) (get_or_append_left words (m ∷ []) 0 (q / w) below))
    (λ above.
    let past : get_or words (q / w) 0 ≡ 0 = past_end words (q / w) above in
    let old : has w words q ≡ false = ap (λ x. is_one x (q % w)) past ∙ is_one-zero (q % w) in
    ⊎_elim
    (λ last. ap (λ x. is_one x (q % w)) (ap (λ k. get_or (words ++ m ∷ []) k 0) last ∙ get_or_at words m [] 0 (length words) refl)
    ∙ none (q % w) (mod_below q w some) ∙ sym old)
    (λ beyond. ap (λ x. is_one x (q % w)) (past_end (words ++ m ∷ []) (q / w) (omega (arith, length-append words (m ∷ []))))
    ∙ is_one-zero (q % w) ∙ sym old)
    (cases_eq (q / w) (length words)))
    (cases_lt (q / w) (length words))

-- one more word with no member leaves the set as it was
pub set_of_words-push : {X : Type 0} (f : X → ℕ) (w : ℕ) (items : List X) (y : X) → 0 < w → set_of w (f y) ≡ empty
    → set_of_words w (map f (items ++ y ∷ [])) ≡ set_of_words w (map f items)
set_of_words-push f w items y some none =
    ap (set_of_words w) (map-append f items (y ∷ [])) ∙ same_set nat_cmp_total nat_cmp-IsAntisymmetric _ _ (λ q.
    contains-set_of_words w (map f items ++ f y ∷ []) q some
    ∙ has_more w (map f items) (f y) q some (λ j low. none_from_empty w (f y) j none low)
    ∙ sym (contains-set_of_words w (map f items) q some))

-- no words have no member
pub no_words : (w : ℕ) → 0 < w → set_of_words w [] ≡ empty
no_words w some = empty_of_none (set_of_words w []) (λ q. contains-set_of_words w [] q some ∙ is_one-zero (q % w))

-- the numbers are the words
pub word_of_list : (w : ℕ) (words : List ℕ) (k : ℕ) → IsWordOf w (set_of_words w words) k (get_or words k 0)
word_of_list w words k j low =
    let some : 0 < w = omega arith in
    contains_below w (get_or words k 0) j low
    ∙ ap (λ q. is_one (get_or words q 0) j) (sym (div-mul-add k w j low))
    ∙ ap (is_one (get_or words ((k * w + j) / w) 0)) (sym (mod-mul-add k w j low))
    ∙ sym (contains-set_of_words w words (k * w + j) some)

-- the first words of a list are those of the set
pub first_words_of : {X : Type 0} (f : X → ℕ) (w n : ℕ) (items : List X) →
    AreFirstWords w (set_of_words w (map f items)) (map f (take n items))
first_words_of f w n items k below =
    let long : length (map f (take n items)) ≡ min n (length items) = length-map (take n items) f ∙ length-take n items in
    let same : get_or (map f (take n items)) k 0 ≡ get_or (map f items) k 0 =
    ap (λ l. get_or l k 0) (sym (take-map f n items)) ∙ get_or-take n (map f items) k 0 (omega arith) in
    subst (λ m. IsWordOf w (set_of_words w (map f items)) k m) (sym same) (word_of_list w (map f items) k)

-- ---- the members in one word, by its digits

module _ (w : ℕ) (s : FinSet nat_cmp) (k n : ℕ) (some : 0 < w) (word : IsWordOf w s k n) where
  -- a number of the word by its digit
  pub by_digit : (i : ℕ) → i / w ≡ k → contains s i ≡ contains (set_of w n) (i % w)
  by_digit i at =
      let place : i ≡ k * w + i % w = sym (div-add-mod' i w) ∙ ap (λ k. k * w + i % w) at in
      ap (contains s) place ∙ sym (word (i % w) (mod_below i w some))

  -- if word k has no digit 1, no member stands in it
  pub empty_word : set_of w n ≡ empty → IsWordEmpty w s k
  empty_word none i at = by_digit i at ∙ none_in_empty (set_of w n) none (i % w)

  -- the greatest place of word k is the greatest member in it
  pub greatest_of_word : (x : ℕ) → x < w → IsGreatest (set_of w n) x → IsGreatestOfWord w s k (k * w + x)
  greatest_of_word x low last = record {
    member = sym (word x low) ∙ last.member;
    word = div-mul-add k w x low;
    greatest = λ i at has.
        let below : i % w ≤ x = last.greatest (i % w) (sym (by_digit i at) ∙ has) in
        let place = div-add-mod' i w in
        let start : i / w * w ≡ k * w = ap (λ k. k * w) at in
        omega arith;
  }
