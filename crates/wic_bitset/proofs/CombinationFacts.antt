-- Two sets, a word at a time: what one word changes, and what all words together do.
use Rattle.std.proofs.Common.{⊎_elim, ◌⊎◌, inl, inr, ◌≡◌, ◌≢◌, ℕ, zero, suc, ◌+◌, ◌*◌, ◌/◌, ◌%◌, ◌<◌, ◌≤◌, Bool, true, false, not}
use Rattle.std.proofs.Common.{◌&&◌, ◌||◌}
use Rattle.std.proofs.Common.{List, map, set, slice_get, Some, refl, sym, ap, subst, ◌∙◌, ◌↔◌, IsTrue, arith}
use Rattle.std.specs.Ordering.{nat_cmp}
use Rattle.std.specs.Cmp.{nat_cmp_total}
use Rattle.std.specs.FinSet.{FinSet, empty, contains, insert, remove, union, intersection, difference, is_subset, same_set}
use Rattle.std.specs.FinSet.{nat_cmp-IsAntisymmetric, contains-union, contains-intersection, contains-difference}
use Rattle.std.specs.FinSet.{is_subset-contains, contains-is_subset}
use Rattle.std.proofs.lemmas.Bool.{cases_eq, cases_lt, cases_Bool, and_parts, or_cases, both_ways}
use Rattle.std.proofs.lemmas.Bool.{iff_false}
use Rattle.std.proofs.lemmas.Bool.{false_from_ne_true}
use Rattle.std.proofs.lemmas.List.{map-set}
use Rattle.std.proofs.lemmas.Nat.{div-mul-add, mod-mul-add, mod_below}
use Rattle.std.proofs.Math.Nat.{div-le_self}
use Rattle.wic_scalar.specs.Digits.{is_one}
use Rattle.wic_scalar.specs.Scalar.{set_of}
use Rattle.wic_scalar.proofs.MemberFacts.{contains_below, none_from_empty, same_from_sets}
use Rattle.wic_scalar.proofs.CallFacts.{set_of-none, set_of-same}
use Rattle.wic_bitset.specs.Compound.{max_number}
use Rattle.wic_bitset.specs.Combination.{combined, words_to_combine, TellsChange, CombinesWord, CombinesToNone, KeepsNone, HasWordsFor}
use Rattle.wic_bitset.specs.From.{IsLeastFrom, NoneFrom}
use Rattle.wic_base.specs.Sets.{IsGreatest}
use Rattle.wic_bitset.specs.Summary.{Summarizes}
use Rattle.wic_bitset.specs.Words.{Words, IsWordOf, IsWordEmpty, set_of_words}
use Rattle.wic_bitset.specs.declared.combination.Combination.{Combination}
use Rattle.wic_bitset.specs.declared.combination.Combination.TheVariants.{Union, Intersection, Difference}
use Rattle.wic_bitset.proofs.SummaryFacts.{below_end, filled, no_empty_word, summary_within}
use Rattle.wic_bitset.proofs.MarkedFacts.{HoldsMarked}
use Rattle.wic_base.proofs.SetFacts.{there_after_insert, same_after_insert, gone_after_remove, same_after_remove, empty_of_none}
use Rattle.wic_base.proofs.SetFacts.{none_in_empty}
use Rattle.wic_bitset.proofs.WordFacts.{here_now, elsewhere, below_length, in_word, by_digit}

-- two sets with the same members are one
same_members : (s t : FinSet nat_cmp) → ((i : ℕ) → contains s i ≡ contains t i) → s ≡ t
same_members s t same = same_set nat_cmp_total nat_cmp-IsAntisymmetric s t same

-- a test is its own negation nowhere
not_its_negation : (a : Bool) → a ≡ not a → ⊥
not_its_negation true same = absurd (cc)
not_its_negation false same = absurd (cc)

same_or_not : (a b : Bool) → (a ≡ b) ⊎ (a ≡ not b)
same_or_not true true = inl refl
same_or_not true false = inr refl
same_or_not false true = inr refl
same_or_not false false = inl refl

-- two tests differ somewhere below n, or nowhere
differ_or_agree : (p q : ℕ → Bool) (n : ℕ) → ((j : ℕ) × ((j < n) × (p j ≡ not (q j)))) ⊎ ((j : ℕ) → j < n → p j ≡ q j)
differ_or_agree p q zero = inr (λ j h. absurd (omega arith))
differ_or_agree p q (suc n) = ⊎_elim
    (λ found. inl (found.0, (let low = found.1.0 in omega arith, found.1.1)))
    (λ agree. ⊎_elim
    (λ same. inr (λ j h. ⊎_elim (λ at. ap p at ∙ same ∙ ap q (sym at)) (λ apart. agree j (omega arith)) (cases_eq j n)))
    (λ differ. inl (n, (omega arith, differ)))
    (same_or_not (p n) (q n)))
    (differ_or_agree p q n)

-- ---- one word

module _ {X : Type 0} (f : X → ℕ) (w k : ℕ) (items : List X) (x y : X) (some : 0 < w) (at_k : slice_get items k ≡ Some x) where
  -- the numbers of word k, once it is y
  in_new_word : (i : ℕ) → i / w ≡ k → contains (set_of_words w (map f (set items k y))) i ≡ is_one (f y) (i % w)
  in_new_word i at =
      ap (λ ns. contains (set_of_words w ns) i) (map-set f items k y)
      ∙ here_now w (map f items) k (f y) some (below_length f items k x at_k) i at
      ∙ contains_below w (f y) (i % w) (mod_below i w some)

  in_old_word : (i : ℕ) → i / w ≡ k → contains (set_of_words w (map f items)) i ≡ is_one (f x) (i % w)
  in_old_word i at =
      in_word f w i items x some (subst (λ q. slice_get items q ≡ Some x) (sym at) at_k)
      ∙ contains_below w (f x) (i % w) (mod_below i w some)

  in_other_words : (i : ℕ) → i / w ≢ k → contains (set_of_words w (map f (set items k y))) i ≡ contains (set_of_words w (map f items)) i
  in_other_words i apart =
      ap (λ ns. contains (set_of_words w ns) i) (map-set f items k y)
      ∙ elsewhere w (map f items) k (f y) some (below_length f items k x at_k) i apart

  -- word k becomes the combination of its digits and those of another set's word
  pub combines_word : (how : Combination) (n : ℕ) (t : FinSet nat_cmp) → IsWordOf w t k n
      → ((j : ℕ) → j < w → is_one (f y) j ≡ combined how (is_one (f x) j) (is_one n j))
      → CombinesWord w how k (set_of_words w (map f items)) t (set_of_words w (map f (set items k y)))
  combines_word how n t word digits = record {
    here = λ i at.
        let low = mod_below i w some in
        let other : contains t i ≡ is_one n (i % w) = by_digit w t k n some word i at ∙ contains_below w n (i % w) low in
        in_new_word i at ∙ digits (i % w) low
        ∙ ap (λ a. combined how a (is_one n (i % w))) (sym (in_old_word i at))
        ∙ ap (combined how (contains (set_of_words w (map f items)) i)) (sym other);
    elsewhere = in_other_words;
  }

  -- whether the two words differ tells whether the sets do
  pub word_tells : (r : Bool) → (IsTrue r ↔ (set_of w (f y) ≡ set_of w (f x)))
      → TellsChange (not r) (set_of_words w (map f items)) (set_of_words w (map f (set items k y)))
  word_tells true test = same_members _ _ (λ i. ⊎_elim
      (λ at. in_new_word i at ∙ same_from_sets w (f y) (f x) (test.0 refl) (i % w) (mod_below i w some) ∙ sym (in_old_word i at))
      (λ apart. in_other_words i apart)
      (cases_eq (i / w) k))
  word_tells false test = ⊎_elim
      (λ found.
      let j = found.0 in
      let place : (k * w + j) / w ≡ k = div-mul-add k w j found.1.0 in
      let digit : (k * w + j) % w ≡ j = mod-mul-add k w j found.1.0 in (
        k * w + j,
        in_new_word (k * w + j) place ∙ ap (is_one (f y)) digit ∙ found.1.1
            ∙ ap not (ap (is_one (f x)) (sym digit) ∙ sym (in_old_word (k * w + j) place)),
      ))
      (λ agree. absurd (iff_false test refl (set_of-same w (f y) (f x) agree)))
      (differ_or_agree (is_one (f y)) (is_one (f x)) w)

-- the test of one word of a combination
pub none_of_word : (w : ℕ) (how : Combination) (k m n r : ℕ) (s t : FinSet nat_cmp) (b : Bool) → 0 < w → IsWordOf w s k m
    → IsWordOf w t k n → ((j : ℕ) → j < w → is_one r j ≡ combined how (is_one m j) (is_one n j))
    → (IsTrue b ↔ (set_of w r ≡ empty)) → IsTrue b ↔ CombinesToNone w how k s t
none_of_word w how k m n r s t b some first second digits test = (
  λ yes i at.
      let low = mod_below i w some in
      let one : contains s i ≡ is_one m (i % w) = by_digit w s k m some first i at ∙ contains_below w m (i % w) low in
      let other : contains t i ≡ is_one n (i % w) = by_digit w t k n some second i at ∙ contains_below w n (i % w) low in
      ap (λ a. combined how a (contains t i)) one ∙ ap (combined how (is_one m (i % w))) other
      ∙ sym (digits (i % w) low) ∙ none_from_empty w r (i % w) (test.0 yes) low,
  λ none. test.1 (set_of-none w r (λ j low.
      let one : is_one m j ≡ contains s (k * w + j) = sym (contains_below w m j low) ∙ first j low in
      let other : is_one n j ≡ contains t (k * w + j) = sym (contains_below w n j low) ∙ second j low in
      digits j low ∙ ap (λ a. combined how a (is_one n j)) one ∙ ap (combined how (contains s (k * w + j))) other
      ∙ none (k * w + j) (div-mul-add k w j low))),
)

-- ---- one word and its mark

-- a member of a combination is a member of one of the two
of_either : (how : Combination) (a b : Bool) → combined how a b ≡ true → (a ≡ true) ⊎ (b ≡ true)
of_either Union a b has = or_cases a b has
of_either Intersection a b has = inl ((and_parts a b has).0)
of_either Difference a b has = inl ((and_parts a (not b) has).0)

-- so no member is larger than theirs
pub combined_small : (w : ℕ) (how : Combination) (k : ℕ) (s t r : FinSet nat_cmp) → CombinesWord w how k s t r
    → ((i : ℕ) → contains s i ≡ true → i ≤ max_number) → ((i : ℕ) → contains t i ≡ true → i ≤ max_number)
    → (i : ℕ) → contains r i ≡ true → i ≤ max_number
combined_small w how k s t r word first second i has = ⊎_elim
    (λ at. ⊎_elim
    (λ one. first i one)
    (λ other. second i other)
    (of_either how (contains s i) (contains t i) (sym (word.here i at) ∙ has)))
    (λ apart. first i (sym (word.elsewhere i apart) ∙ has))
    (cases_eq (i / w) k)

-- a word that has a member has a number that a set can hold
pub filled_small : (w : ℕ) (s : FinSet nat_cmp) (k : ℕ) → 0 < w → ((i : ℕ) → contains s i ≡ true → i ≤ max_number)
    → (IsWordEmpty w s k → ⊥) → k ≤ max_number
filled_small w s k some small filled = ⊎_elim
    (λ above. absurd (filled (λ i at. false_from_ne_true (contains s i) (λ has. absurd (
    let le = small i has in
    let down = div-le_self i w in
    omega arith)))))
    (λ le. le)
    (cases_lt max_number k)

module _ (w : ℕ) (how : Combination) (k : ℕ) (words words' : Words) (marks marks' t : FinSet nat_cmp) (end end' : ℕ)
    (old : Summarizes w words marks end) (word : CombinesWord w how k words.members t words'.members)
    (small : (i : ℕ) → contains t i ≡ true → i ≤ max_number) (within : k < words.count) (count : words'.count ≡ words.count)
    (same_end : end' ≡ end) where
  -- the other words are as empty as before
  word_kept : (q : ℕ) → q ≢ k → IsWordEmpty w words'.members q ↔ IsWordEmpty w words.members q
  word_kept q apart = (
    λ none i at. sym (word.elsewhere i (λ here. apart (sym at ∙ here))) ∙ none i at,
    λ none i at. word.elsewhere i (λ here. apart (sym at ∙ here)) ∙ none i at,
  )

  -- word k alone is marked anew, as it should be
  marked_word : ((q : ℕ) → q ≢ k → contains marks' q ≡ contains marks q)
      → (contains marks' k ≡ false) ↔ IsWordEmpty w words'.members k → Summarizes w words' marks' end'
  marked_word others here = record {
    digits = λ q. ⊎_elim
        (λ at. subst (λ q. (contains marks' q ≡ false) ↔ IsWordEmpty w words'.members q) (sym at) here)
        (λ apart.
        let same = others q apart in
        let kept = word_kept q apart in
        (λ no. kept.1 ((old.digits q).0 (sym same ∙ no)), λ none. same ∙ (old.digits q).1 (kept.0 none)))
        (cases_eq q k);
    reach = omega (arith, old.reach);
    ends = λ i has. ⊎_elim
        (λ at. omega arith)
        (λ apart. let h = old.ends i (sym (word.elsewhere i apart) ∙ has) in omega arith)
        (cases_eq (i / w) k);
    numbers = combined_small w how k words.members t words'.members word old.numbers small;
    few = omega (arith, old.few);
  }

  -- word k is empty now, and unmarked
  pub Summarizes-combined_empty : marks' ≡ remove marks k → IsWordEmpty w words'.members k → Summarizes w words' marks' end'
  Summarizes-combined_empty unmarked none = marked_word
      (λ q apart. ap (λ s. contains s q) unmarked ∙ same_after_remove marks k q apart)
      (λ _. none, λ _. ap (λ s. contains s k) unmarked ∙ gone_after_remove marks k)

  -- word k has a member now, and is marked
  pub Summarizes-combined_filled : marks' ≡ insert marks k → (IsWordEmpty w words'.members k → ⊥) → Summarizes w words' marks' end'
  Summarizes-combined_filled marked filled = marked_word
      (λ q apart. ap (λ s. contains s q) marked ∙ same_after_insert marks k q apart) (
        λ no. absurd (let yes = ap (λ s. contains s k) marked ∙ there_after_insert marks k in cc),
        λ none. absurd (filled none),
      )

-- ---- word after word

-- r is, in the words below `next`, the combination of s and t; elsewhere it is s
pub record CombinesBelow (w : ℕ) (how : Combination) (next : ℕ) (s t r : FinSet nat_cmp) : Type 0 where
  pub inside : (i : ℕ) → i / w < next → contains r i ≡ combined how (contains s i) (contains t i)
  pub outside : (i : ℕ) → next ≤ i / w → contains r i ≡ contains s i

-- no word is done
pub combines_none : (w : ℕ) (how : Combination) (s t : FinSet nat_cmp) → CombinesBelow w how 0 s t s
combines_none w how s t = record { inside = λ i below. absurd (omega arith); outside = λ i _. refl }

or_true : (a : Bool) → (a || true) ≡ true
or_true true = refl
or_true false = refl

or_false : (a : Bool) → (a || false) ≡ a
or_false true = refl
or_false false = refl

-- two sets with their marks
module _ (w : ℕ) (words words' : Words) (marks marks' : FinSet nat_cmp) (end end' : ℕ)
    (first : Summarizes w words marks end) (second : Summarizes w words' marks' end') where
  -- a combination leaves a word that it can't change
  stays : (how : Combination) (i : ℕ) → contains (words_to_combine how marks marks') (i / w) ≡ false
      → combined how (contains words.members i) (contains words'.members i) ≡ contains words.members i
  stays Union i unmarked =
      let none = (second.digits (i / w)).0 unmarked i refl in
      ap (λ b. contains words.members i || b) none ∙ or_false (contains words.members i)
  stays Intersection i unmarked =
      let none = (first.digits (i / w)).0 unmarked i refl in ap (λ a. a && contains words'.members i) none ∙ sym none
  stays Difference i unmarked =
      let none = (first.digits (i / w)).0 unmarked i refl in ap (λ a. a && not (contains words'.members i)) none ∙ sym none

  -- there is a word for each that the combination can change
  pub word_within : (how : Combination) → HasWordsFor w how words'.members words.count → (k : ℕ)
      → contains (words_to_combine how marks marks') k ≡ true → k < words.count
  word_within Union room k has = below_end w words' marks' end' second words.count room k has
  word_within Intersection room k has = summary_within w words marks end first k has
  word_within Difference room k has = summary_within w words marks end first k has

  -- the first was s, and its words below `next` are done
  module _ (how : Combination) (next : ℕ) (s : FinSet nat_cmp) (before : CombinesBelow w how next s words'.members words.members) where
    -- a word from `next` on that the combination can't change is as it should be
    passed : (i : ℕ) → next ≤ i / w → contains (words_to_combine how marks marks') (i / w) ≡ false
        → contains words.members i ≡ combined how (contains s i) (contains words'.members i)
    passed i above unmarked =
        sym (stays how i unmarked) ∙ ap (λ a. combined how a (contains words'.members i)) (before.outside i above)

    -- the next word that it can change is done
    pub combines_more : (k : ℕ) (new : FinSet nat_cmp) → IsLeastFrom (words_to_combine how marks marks') next k
        → CombinesWord w how k words.members words'.members new → CombinesBelow w how (k + 1) s words'.members new
    combines_more k new least word = record {
      inside = λ i below. ⊎_elim
          (λ at. let up = least.from in
          word.here i at ∙ ap (λ a. combined how a (contains words'.members i)) (before.outside i (omega arith)))
          (λ apart. word.elsewhere i apart ∙ ⊎_elim
          (λ done. before.inside i done)
          (λ above. passed i above (false_from_ne_true (contains (words_to_combine how marks marks') (i / w)) (λ has.
          let le = least.least (i / w) above has in absurd (omega arith))))
          (cases_lt (i / w) next))
          (cases_eq (i / w) k);
      outside = λ i above.
          let up = least.from in word.elsewhere i (λ at. absurd (omega arith)) ∙ before.outside i (omega arith);
    }

    -- no word is left
    pub combines_all : NoneFrom (words_to_combine how marks marks') next → (i : ℕ)
        → contains words.members i ≡ combined how (contains s i) (contains words'.members i)
    combines_all none i = ⊎_elim
        (λ done. before.inside i done)
        (λ above. passed i above (none (i / w) above))
        (cases_lt (i / w) next)

-- s became old in the words below `next`, and old becomes new in word k
module _ (w : ℕ) (how : Combination) (next k : ℕ) (s t old new : FinSet nat_cmp) (up : next ≤ k)
    (before : CombinesBelow w how next s t old) (word : CombinesWord w how k old t new) where
  -- whether the set is another one since the first word
  tells_more : (a b : Bool) → TellsChange a s old → TellsChange b old new → TellsChange (a || b) s new
  tells_more true b first second =
      let i = first.0 in (
        i,
        ⊎_elim
            (λ done. word.elsewhere i (λ at. absurd (omega arith)) ∙ first.1)
            (λ above. absurd (not_its_negation (contains s i) (sym (before.outside i above) ∙ first.1)))
            (cases_lt (i / w) next),
      )
  tells_more false b first second = subst (λ (r : FinSet nat_cmp). TellsChange b r new) first second

  -- the word changed, or it didn't
  pub tells_changed : (a b c : Bool) → b ≡ true → c ≡ true → TellsChange a s old → TellsChange b old new → TellsChange c s new
  tells_changed a b c one is first second =
      subst (λ (r : Bool). TellsChange r s new) (ap (λ r. a || r) one ∙ or_true a ∙ sym is) (tells_more a b first second)

  -- the word stayed as it was, so the result stays too
  pub tells_unchanged : (a b c : Bool) → b ≡ false → c ≡ a → TellsChange a s old → TellsChange b old new → TellsChange c s new
  tells_unchanged a b c none is first second =
      subst (λ (r : Bool). TellsChange r s new) (ap (λ r. a || r) none ∙ or_false a ∙ sym is) (tells_more a b first second)

-- ---- what the calls return

-- a combination and the set of that name
pub union_is : (s t r : FinSet nat_cmp) → ((i : ℕ) → contains r i ≡ combined Union (contains s i) (contains t i)) → r ≡ union s t
union_is s t r each = same_members _ _ (λ i. each i ∙ sym (contains-union nat_cmp_total s t i))

-- what is in both is the intersection
pub intersection_is : (s t r : FinSet nat_cmp) → ((i : ℕ) → contains r i ≡ combined Intersection (contains s i) (contains t i))
    → r ≡ intersection s t
intersection_is s t r each = same_members _ _ (λ i. each i ∙ sym (contains-intersection nat_cmp_total s t i))

-- what is in the first alone is the difference
pub difference_is : (s t r : FinSet nat_cmp) → ((i : ℕ) → contains r i ≡ combined Difference (contains s i) (contains t i))
    → r ≡ difference s t
difference_is s t r each = same_members _ _ (λ i. each i ∙ sym (contains-difference nat_cmp_total s t i))

-- the greatest member is one number
pub greatest_is_one : (s : FinSet nat_cmp) (x y : ℕ) → IsGreatest s x → IsGreatest s y → x ≡ y
greatest_is_one s x y one other =
    let le : x ≤ y = other.greatest x one.member in let ge : y ≤ x = one.greatest y other.member in omega arith

module _ (w : ℕ) (words : Words) (marks : FinSet nat_cmp) (end : ℕ) (sum : Summarizes w words marks end) where
  -- if the combination has no member of the set, it has none in a marked word
  pub keeps_none_of_word : (how : Combination) (t : FinSet nat_cmp) → KeepsNone how words.members t → (k : ℕ)
      → contains marks k ≡ true → CombinesToNone w how k words.members t
  keeps_none_of_word Union t none k marked i at = absurd (no_empty_word w words marks end sum k marked (λ q _.
      false_from_ne_true (contains words.members q) (λ has. absurd (
      let no = ap (λ a. a || contains t q) (sym has) ∙ none q has in cc))))
  keeps_none_of_word Intersection t none k marked i at = ⊎_elim
      (λ has. none i has)
      (λ no. ap (λ a. a && contains t i) no)
      (cases_Bool (contains words.members i))
  keeps_none_of_word Difference t none k marked i at = ⊎_elim
      (λ has. none i has)
      (λ no. ap (λ a. a && not (contains t i)) no)
      (cases_Bool (contains words.members i))

  -- if it has none in the marked words, of which none is left, it has no member of the set
  pub keeps_none_by_marks : (how : Combination) (t : FinSet nat_cmp) (next : ℕ) → NoneFrom marks next
      → HoldsMarked w marks next (λ i. combined how (contains words.members i) (contains t i) ≡ false) → KeepsNone how words.members t
  keeps_none_by_marks how t next none holds i has =
      let marked = filled w words marks end sum i has in
      ⊎_elim
      (λ done. holds i marked done)
      (λ above. absurd (let no = none (i / w) above in cc))
      (cases_lt (i / w) next)

-- the test of a subset
pub subset_from_test : (s t : FinSet nat_cmp) (r : Bool) → (IsTrue r ↔ KeepsNone Difference s t) → r ≡ is_subset s t
subset_from_test s t r test = same_from_parts r (is_subset s t)
    (λ holds. contains-is_subset nat_cmp_total s t (λ i has.
    let other : not (contains t i) ≡ false = ap (λ a. a && not (contains t i)) (sym has) ∙ test.0 holds i has in
    in_other (contains t i) other))
    (λ subset. test.1 (λ i _. by_case (contains s i) (contains t i) (is_subset-contains nat_cmp_total s t subset i)))
  where
    in_other : (b : Bool) → not b ≡ false → b ≡ true
    in_other true _ = refl
    in_other false none = absurd (cc)

    by_case : (a b : Bool) → (a ≡ true → b ≡ true) → (a && not b) ≡ false
    by_case true b implied = ap not (implied refl)
    by_case false b implied = refl

    same_from_parts : (a b : Bool) → (IsTrue a → b ≡ true) → (b ≡ true → IsTrue a) → a ≡ b
    same_from_parts true b one other = sym (one refl)
    same_from_parts false true one other = absurd (let no = other refl in cc)
    same_from_parts false false one other = refl

-- the test of two sets with nothing in common
pub disjoint_from_test : (s t : FinSet nat_cmp) (r : Bool) → (IsTrue r ↔ KeepsNone Intersection s t)
    → IsTrue r ↔ (intersection s t ≡ empty)
disjoint_from_test s t r test = (
  λ holds. empty_of_none (intersection s t) (λ i. contains-intersection nat_cmp_total s t i
      ∙ false_from_ne_true (contains s i && contains t i) (λ both.
      let none = test.0 holds i ((and_parts (contains s i) (contains t i) both).0) in both_ways _ none both)),
  λ none. test.1 (λ i _. sym (contains-intersection nat_cmp_total s t i) ∙ none_in_empty (intersection s t) none i),
)
