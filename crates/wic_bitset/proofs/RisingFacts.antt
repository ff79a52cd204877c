-- The ascending list of the members is any list of them up to a place that is above them all.
use Rattle.std.proofs.Common.{⊎_elim, ◌≡◌, ℕ, ◌+◌, ◌-◌, ◌<◌, ◌≤◌, Bool, true, List, [], ◌∷◌, ◌++◌, length, sym, ap, ◌∙◌}
use Rattle.std.proofs.Common.{arith, max}
use Rattle.std.proofs.Common.{append-nil, IsTrue, ◌↔◌}
use Rattle.std.specs.Prelude.{nat_eq, All, Option, Some, None}
use Rattle.std.specs.List.{last_or, list_any}
use Rattle.std.specs.List.Sorted.{IsStrictlyIncreasing}
use Rattle.std.specs.Ordering.{nat_cmp, eq_by_cmp}
use Rattle.std.specs.Cmp.{unsigned_tied}
use Rattle.std.specs.Cmp.Lexicographic.{pointwise, bytes_decides}
use Rattle.std.specs.FinSet.{FinSet, contains, empty, items, from_list, len, contains-items}
use Rattle.std.proofs.lemmas.Bool.{cases_eq, false_from_ne_true}
use Rattle.std.proofs.lemmas.Bool.Decides.{nat_tests, same_from_decides}
use Rattle.wic_bitset.specs.Greatest.{IsMax}
use Rattle.wic_bitset.specs.Rising.{members_between, rising, greatest_of}
use Rattle.wic_bitset.proofs.BetweenFacts.{between-none, between-split, from_list-between, IsStrictlyIncreasing-between, All-between}
use Rattle.wic_base.specs.Sets.{IsGreatest, ListsMembers}
use Rattle.wic_base.proofs.RangeFacts.{last_of_filter}
use Rattle.wic_base.proofs.SetFacts.{count_in, at_most_in, lists_members, none_in_empty}

le-greatest_of : (xs : List ℕ) (q : ℕ) → list_any (eq_by_cmp nat_cmp q) xs ≡ true → q ≤ greatest_of xs
le-greatest_of [] q has = absurd (cc)
le-greatest_of (x ∷ xs) q has =
    let t = unsigned_tied q x in
    ⊎_elim
    (λ same. omega arith)
    (λ apart. let rest : q ≤ greatest_of xs = le-greatest_of xs q (grind (arith, nat_tests)) in omega arith)
    (cases_eq q x)

-- no member is above the greatest item
pub below_top : (s : FinSet nat_cmp) (i : ℕ) → contains s i ≡ true → i < greatest_of (items s) + 1
below_top s i has = let h : i ≤ greatest_of (items s) = le-greatest_of (items s) i (sym (contains-items s i) ∙ has) in omega arith

-- a longer range of numbers has no more members
between-longer : (s : FinSet nat_cmp) (end longer : ℕ) → end ≤ longer → ((i : ℕ) → contains s i ≡ true → i < end)
    → members_between s 0 longer ≡ members_between s 0 end
between-longer s end longer le below =
    let none : members_between s end longer ≡ [] = between-none s end longer
    (λ i low _. false_from_ne_true (contains s i) (λ has. absurd (let h = below i has in omega arith))) in
    between-split s 0 end longer (omega arith) le ∙ ap (λ ys. members_between s 0 end ++ ys) none ∙ append-nil (members_between s 0 end)

-- the place above them all doesn't matter
pub between-rising : (s : FinSet nat_cmp) (end : ℕ) → ((i : ℕ) → contains s i ≡ true → i < end) → members_between s 0 end ≡ rising s
unfolding rising
between-rising s end below =
    let top = greatest_of (items s) + 1 in
    sym (between-longer s end (max end top) (omega arith) below) ∙ between-longer s top (max end top) (omega arith) (below_top s)

-- the list has just the members
pub from_list-rising : (s : FinSet nat_cmp) → from_list (rising s) ≡ s
unfolding rising
from_list-rising s = from_list-between s (greatest_of (items s) + 1) (below_top s)

-- the list is ascending
pub IsStrictlyIncreasing-rising : (s : FinSet nat_cmp) → IsStrictlyIncreasing (rising s)
unfolding rising
IsStrictlyIncreasing-rising s = IsStrictlyIncreasing-between s 0 (greatest_of (items s) + 1)

-- the list is as long as the set is large
pub length-rising : (s : FinSet nat_cmp) → length (rising s) ≡ len s
unfolding rising
length-rising s = sym (count_in (contains s) 0 (greatest_of (items s) + 1 - 0)) ∙ ap len (from_list-rising s)

-- the test of two sets is that of their lists
pub rising_from_same : (s t : FinSet nat_cmp) (r : Bool) → (IsTrue r ↔ (s ≡ t)) → r ≡ pointwise nat_eq (rising s) (rising t)
rising_from_same s t r test = same_from_decides r (pointwise nat_eq (rising s) (rising t)) (
  λ yes. ap rising (test.0 yes),
  λ same. test.1 (sym (from_list-rising s) ∙ ap from_list same ∙ from_list-rising t),
) (bytes_decides (rising s) (rising t))

-- there are no more members than numbers below a place that is above them all
pub length-rising-le : (s : FinSet nat_cmp) (end : ℕ) → ((i : ℕ) → contains s i ≡ true → i < end) → length (rising s) ≤ end
length-rising-le s end below =
    let same = ap length (between-rising s end below) in
    omega (arith, same, at_most_in (contains s) 0 (end - 0))

-- what is true of each member is true of each of the list
pub All-rising : (P : ℕ → Type 0) (s : FinSet nat_cmp) → ((i : ℕ) → contains s i ≡ true → P i) → All P (rising s)
unfolding rising
All-rising P s each = All-between P s 0 (greatest_of (items s) + 1) each

-- the list has each member once
pub lists-rising : (s : FinSet nat_cmp) → ListsMembers (rising s) s
lists-rising s = lists_members (rising s) s (from_list-rising s) (IsStrictlyIncreasing-rising s) (length-rising s)

-- the greatest member is the last of the list
pub last-rising : (s : FinSet nat_cmp) (x : ℕ) → IsGreatest s x → last_or None (rising s) ≡ Some x
unfolding rising
last-rising s x greatest =
    let top = greatest_of (items s) + 1 in
    last_of_filter (contains s) x 0 (top - 0) (omega arith) (let h = below_top s x greatest.member in omega arith) greatest.member
    (λ i after _. false_from_ne_true (contains s i) (λ has. absurd (let h = greatest.greatest i has in omega arith)))

-- the empty set has the empty list
pub rising-empty : (s : FinSet nat_cmp) → s ≡ empty → rising s ≡ []
unfolding rising
rising-empty s none = between-none s 0 (greatest_of (items s) + 1) (λ i _ _. none_in_empty s none i)

-- so the last of the list is the maximum
pub max-last : (s : FinSet nat_cmp) (r : Option ℕ) → IsMax s r → r ≡ last_or None (rising s)
max-last s None none = sym (ap (last_or None) (rising-empty s none))
max-last s (Some x) last = sym (last-rising s x last)
