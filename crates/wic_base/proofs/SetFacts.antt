-- Finite sets of numbers: equal if they have the same members; one number in or out; the number of members.
use Rattle.std.proofs.Common.{⊎_elim, ◌≡◌, ◌≢◌, ℕ, zero, suc, ◌+◌, ◌<◌, ◌≤◌, Bool, true, false, not, ◌&&◌, length, refl, sym, ap, ◌∙◌}
use Rattle.std.proofs.Common.{List, ◌↔◌, arith, subst}
use Rattle.std.specs.Prelude.{nat_lt, nat_eq, Contains}
use Rattle.std.specs.List.Sorted.{IsStrictlyIncreasing}
use Rattle.std.specs.List.{filter, range_with_len}
use Rattle.std.specs.Ordering.{nat_cmp}
use Rattle.std.specs.Cmp.{IsEquivalence, nat_cmp_total, unsigned_tied}
use Rattle.std.specs.FinSet.{FinSet, empty, contains, insert, remove, len, from_list, same_set, members, nat_cmp-IsAntisymmetric}
use Rattle.std.specs.FinSet.{contains-empty, contains-from_list_nat}
use Rattle.std.specs.FinSet.{contains-insert, contains-remove, len-empty, len-insert}
use Rattle.std.proofs.lemmas.Bool.{cases_eq, cases_Bool}
use Rattle.std.proofs.lemmas.Bool.Decides.{nat_tests}
use Rattle.std.proofs.lemmas.List.FromFn.{length-range_with_len}
use Rattle.std.proofs.lemmas.Map.Views.{Contains-from_any, list_any-from_Contains}
use Rattle.wic_base.specs.Sets.{ListsMembers}
use Rattle.wic_base.proofs.RangeFacts.{filter_all_in}

-- a number that isn't there is taken out
pub remove_absent : (s : FinSet nat_cmp) (i : ℕ) → contains s i ≡ false → remove s i ≡ s
remove_absent s i absent = same_set nat_cmp_total nat_cmp-IsAntisymmetric _ _ (λ q. ⊎_elim
    (λ same. rw same (grind (members, unsigned_tied, arith, nat_tests)))
    (λ apart. grind (members, unsigned_tied, arith, nat_tests))
    (cases_eq q i))

-- a set with no member is the empty one
pub empty_of_none : (s : FinSet nat_cmp) → ((i : ℕ) → contains s i ≡ false) → s ≡ empty
empty_of_none s none = same_set nat_cmp_total nat_cmp-IsAntisymmetric s empty (λ q. none q ∙ sym (contains-empty nat_cmp q))

-- the empty set has no member
pub none_in_empty : (s : FinSet nat_cmp) → s ≡ empty → (i : ℕ) → contains s i ≡ false
none_in_empty s is i = ap (λ t. contains t i) is ∙ contains-empty nat_cmp i

-- a number that is there is put in
pub insert_present : (s : FinSet nat_cmp) (i : ℕ) → contains s i ≡ true → insert s i ≡ s
insert_present s i present = same_set nat_cmp_total nat_cmp-IsAntisymmetric _ _ (λ q. ⊎_elim
    (λ same. rw same (grind (members, unsigned_tied, arith, nat_tests)))
    (λ apart. grind (members, unsigned_tied, arith, nat_tests))
    (cases_eq q i))

-- two sets are the same if the same numbers are absent
pub same_by_absence : (s t : FinSet nat_cmp) → ((q : ℕ) → contains s q ≡ false → contains t q ≡ false)
    → ((q : ℕ) → contains t q ≡ false → contains s q ≡ false) → s ≡ t
same_by_absence s t one other =
    same_set nat_cmp_total nat_cmp-IsAntisymmetric _ _ (λ q. same_bits (contains s q) (contains t q) (one q) (other q))
  where
    same_bits : (a b : Bool) → (a ≡ false → b ≡ false) → (b ≡ false → a ≡ false) → a ≡ b
    same_bits true true f g = refl
    same_bits true false f g = absurd (let no = g refl in cc)
    same_bits false b f g = sym (f refl)

-- a new number is put in and taken out again
pub remove-insert : (s : FinSet nat_cmp) (i : ℕ) → contains s i ≡ false → remove (insert s i) i ≡ s
remove-insert s i absent = same_set nat_cmp_total nat_cmp-IsAntisymmetric _ _ (λ q. ⊎_elim
    (λ same. rw same (grind (members, unsigned_tied, arith, nat_tests)))
    (λ apart. grind (members, unsigned_tied, arith, nat_tests))
    (cases_eq q i))

-- a member is taken out and put in again
pub insert-remove : (s : FinSet nat_cmp) (i : ℕ) → contains s i ≡ true → insert (remove s i) i ≡ s
insert-remove s i present = same_set nat_cmp_total nat_cmp-IsAntisymmetric _ _ (λ q. ⊎_elim
    (λ same. rw same (grind (members, unsigned_tied, arith, nat_tests)))
    (λ apart. grind (members, unsigned_tied, arith, nat_tests))
    (cases_eq q i))

-- ---- one number in or out

-- a number just put in is there
pub there_after_insert : (s : FinSet nat_cmp) (i : ℕ) → contains (insert s i) i ≡ true
there_after_insert s i = let t = unsigned_tied i i in contains-insert nat_cmp_total s i i ∙ grind (arith, nat_tests)

-- every other number is there as before
pub same_after_insert : (s : FinSet nat_cmp) (i q : ℕ) → q ≢ i → contains (insert s i) q ≡ contains s q
same_after_insert s i q apart = let t = unsigned_tied q i in contains-insert nat_cmp_total s i q ∙ grind (arith, nat_tests)

-- a number just taken out isn't there
pub gone_after_remove : (s : FinSet nat_cmp) (i : ℕ) → contains (remove s i) i ≡ false
gone_after_remove s i = let t = unsigned_tied i i in contains-remove nat_cmp_total s i i ∙ grind (arith, nat_tests)

-- every other number is there as before
pub same_after_remove : (s : FinSet nat_cmp) (i q : ℕ) → q ≢ i → contains (remove s i) q ≡ contains s q
same_after_remove s i q apart = let t = unsigned_tied q i in contains-remove nat_cmp_total s i q ∙ grind (arith, nat_tests)

-- what is left was there
pub was_before_remove : (s : FinSet nat_cmp) (i q : ℕ) → contains (remove s i) q ≡ true → contains s q ≡ true
was_before_remove s i q has = ⊎_elim
    (λ same. absurd (let gone : contains (remove s i) q ≡ false = ap (contains (remove s i)) same ∙ gone_after_remove s i in cc))
    (λ apart. sym (same_after_remove s i q apart) ∙ has)
    (cases_eq q i)

-- ---- the set of a range, and the number of members

-- no number before the range is in its set
early : (p : ℕ → Bool) (q a m : ℕ) → q < a → contains (from_list {R = nat_cmp} (filter p (range_with_len a m))) q ≡ false
early p q a zero below = contains-empty nat_cmp q
early p q a (suc m) below = ⊎_elim
    (λ yes. rw yes (contains-insert nat_cmp_total _ a q
    ∙ (let e = early p q (a + 1) m (omega arith) in let t = unsigned_tied q a in grind (arith, nat_tests))))
    (λ no. rw no (early p q (a + 1) m (omega arith)))
    (cases_Bool (p a))

-- the set of a range that a test filters
pub contains-filter_range : (p : ℕ → Bool) (a n q : ℕ)
    → contains (from_list {R = nat_cmp} (filter p (range_with_len a n))) q ≡ (not (nat_lt q a) && (nat_lt q (a + n) && p q))
contains-filter_range p a zero q = contains-empty nat_cmp q ∙ grind (arith, nat_tests)
contains-filter_range p a (suc n) q =
    let rest = contains-filter_range p (a + 1) n q in
    let t = unsigned_tied q a in
    ⊎_elim
    (λ yes. rw yes (contains-insert nat_cmp_total _ a q ∙ ⊎_elim
    (λ same. let e : p q ≡ true = ap p same ∙ yes in grind (arith, nat_tests))
    (λ apart. grind (arith, nat_tests))
    (cases_eq q a)))
    (λ no. rw no (⊎_elim
    (λ same. let e : p q ≡ false = ap p same ∙ no in grind (arith, nat_tests))
    (λ apart. grind (arith, nat_tests))
    (cases_eq q a)))
    (cases_Bool (p a))

-- one number more is one member more at most
pub len-insert-le : (s : FinSet nat_cmp) (i : ℕ) → len (insert s i) ≤ len s + 1
len-insert-le s i = ⊎_elim
    (λ yes. let e = len-insert nat_cmp_total s i in let t = rw yes at e in omega arith)
    (λ no. let e = len-insert nat_cmp_total s i in let t = rw no at e in omega arith)
    (cases_Bool (contains s i))

-- the number of members of such a set
pub count_in : (p : ℕ → Bool) (a m : ℕ)
    → len (from_list {R = nat_cmp} (filter p (range_with_len a m))) ≡ length (filter p (range_with_len a m))
count_in p a zero = len-empty nat_cmp
count_in p a (suc m) = ⊎_elim
    (λ yes. rw yes (len-insert nat_cmp_total _ a
    ∙ (rw (early p a (a + 1) m (omega arith)) (let e = count_in p (a + 1) m in omega arith))))
    (λ no. rw no (count_in p (a + 1) m))
    (cases_Bool (p a))

-- a range has at most as many members as places
pub at_most_in : (p : ℕ → Bool) (a m : ℕ) → length (filter p (range_with_len a m)) ≤ m
at_most_in p a zero = omega arith
at_most_in p a (suc m) = ⊎_elim
    (λ yes. rw yes (let e = at_most_in p (a + 1) m in omega arith))
    (λ no. rw no (let e = at_most_in p (a + 1) m in omega arith))
    (cases_Bool (p a))

-- a range of m numbers has m members
pub len-from_list-range : (a m : ℕ) → len (from_list {R = nat_cmp} (range_with_len a m)) ≡ m
len-from_list-range a m =
    let all : filter (λ _. true) (range_with_len a m) ≡ range_with_len a m = filter_all_in (λ _. true) a m (λ _ _ _. refl) in
    ap (λ xs. len (from_list {R = nat_cmp} xs)) (sym all)
    ∙ count_in (λ _. true) a m ∙ ap length all ∙ length-range_with_len a m

-- ---- the ascending list of a set

-- a list has the members of its set
pub Contains-from_list : (xs : List ℕ) (k : ℕ) → (Contains xs k ↔ (contains (from_list {R = nat_cmp} xs) k ≡ true))
Contains-from_list xs k = (
  λ listed. contains-from_list_nat xs k ∙ list_any-from_Contains {eq = λ x y. nat_eq y x} equality k xs listed,
  λ has. Contains-from_any {eq = λ x y. nat_eq y x} (λ x y e. grind (arith, nat_tests)) k xs (sym (contains-from_list_nat xs k) ∙ has),
)
  where
    equality : IsEquivalence (λ x y. nat_eq y x)
    equality = record {
      refl = λ x. grind (arith, nat_tests);
      symm = λ x y. grind (arith, nat_tests);
      congr = λ x y z e. grind (arith, nat_tests);
    }

-- an ascending list whose set is s, as long as s is large, has each member of s once and nothing else
pub lists_members : (xs : List ℕ) (s : FinSet nat_cmp) → from_list xs ≡ s → IsStrictlyIncreasing xs → length xs ≡ len s → ListsMembers xs s
lists_members xs s set ascending as_many = record {
  ascending = ascending;
  each = λ k. subst (λ t. Contains xs k ↔ (contains t k ≡ true)) set (Contains-from_list xs k);
  as_many = as_many;
}
