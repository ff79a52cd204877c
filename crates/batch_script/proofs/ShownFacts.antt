-- The members of a set and the entries of a table that are known one by one: what `show` tells of them, to be computed.
use Rattle.std.proofs.Common.{⊎_elim, ◌≡◌, ◌≢◌, ℕ, zero, suc, ◌+◌, ◌-◌, ◌<◌, Bool, false, cond, List, [], ◌∷◌, refl, sym, ap, ◌∙◌}
use Rattle.std.proofs.Common.{arith}
use Rattle.std.specs.Prelude.{⊤, nat_eq, nat_lt}
use Rattle.std.specs.List.{filter, range_with_len}
use Rattle.std.specs.Ordering.{nat_cmp}
use Rattle.std.specs.Cmp.{nat_cmp_total, unsigned_tied}
use Rattle.std.specs.FinMap.{FinMap, put, entries, entries-insert, get-empty}
use Rattle.std.specs.FinMap as fin_map
use Rattle.std.specs.FinSet.{FinSet, empty, insert, contains, from_list, items, contains-empty, members}
use Rattle.std.proofs.lemmas.Bool.{cases_eq, cases_lt, cases_Bool}
use Rattle.std.proofs.lemmas.Bool.Decides.{nat_tests}
use Rattle.wic_base.proofs.MapFacts.{entries_none}
use Rattle.wic_base.proofs.SetFacts.{there_after_insert, same_after_insert}
use Rattle.wic_bitset.specs.Rising.{rising, greatest_of}
use Rattle.wic_bitset.proofs.RisingFacts.{from_list-rising, rising-empty}

-- each number of the list is above x
abbrev IsAbove : ℕ → List ℕ → Type 0
IsAbove x [] = ⊤
IsAbove x (y ∷ ys) = (x < y) × IsAbove x ys

-- each number of the list is above all before it
abbrev Ascends : List ℕ → Type 0
Ascends [] = ⊤
Ascends (x ∷ xs) = IsAbove x xs × Ascends xs

-- what is above y is above a smaller x
above_less : (x y : ℕ) (ys : List ℕ) → x < y → IsAbove y ys → IsAbove x ys
above_less x y [] less above = tt
above_less x y (z ∷ ys) less above = (let z_above = above.0 in omega (arith, z_above), above_less x y ys less above.1)

-- a number is in no list of numbers that are above it
not_in_above : (x : ℕ) (xs : List ℕ) → IsAbove x xs → contains (from_list {R = nat_cmp} xs) x ≡ false
not_in_above x [] above = contains-empty nat_cmp x
not_in_above x (y ∷ ys) above =
    same_after_insert (from_list ys) y x (λ same. let less = above.0 in omega (arith, less, same)) ∙ not_in_above x ys above.1

-- the lists have the same members
abbrev SameMembers : List ℕ → List ℕ → Type 0
SameMembers xs ys = (q : ℕ) → contains (from_list {R = nat_cmp} xs) q ≡ contains (from_list {R = nat_cmp} ys) q

-- ascending lists of the same members begin alike
same_heads : (x y : ℕ) (xs ys : List ℕ) → Ascends (x ∷ xs) → Ascends (y ∷ ys) → SameMembers (x ∷ xs) (y ∷ ys) → x ≡ y
same_heads x y xs ys one other same = ⊎_elim (λ is. is) apart (cases_eq x y)
  where
    apart : x ≢ y → x ≡ y
    apart differs = absurd (⊎_elim
        (λ less. let here = same x in let there = there_after_insert (from_list xs) x in
        let gone = not_in_above x (y ∷ ys) (less, above_less x y ys less other.0) in cc)
        (λ more. let here = same y in let there = there_after_insert (from_list ys) y in
        let gone = not_in_above y (x ∷ xs) (omega (arith, more, differs), above_less y x xs (omega (arith, more, differs)) one.0) in cc)
        (cases_lt x y))

-- and go on alike
same_tails : (x y : ℕ) (xs ys : List ℕ) → Ascends (x ∷ xs) → Ascends (y ∷ ys) → x ≡ y → SameMembers (x ∷ xs) (y ∷ ys) → SameMembers xs ys
same_tails x y xs ys one other is same q = ⊎_elim
    (λ first. rw first (not_in_above x xs one.0 ∙ sym (rw is (not_in_above y ys other.0))))
    (λ later. sym (same_after_insert (from_list xs) x q later) ∙ same q
    ∙ same_after_insert (from_list ys) y q (λ e. later (e ∙ sym is)))
    (cases_eq q x)

-- two ascending lists of the same members are the same
one_list : (xs ys : List ℕ) → Ascends xs → Ascends ys → SameMembers xs ys → xs ≡ ys
one_list [] [] one other same = refl
one_list [] (y ∷ ys) one other same =
    absurd (let here = same y in let gone = contains-empty nat_cmp y in let there = there_after_insert (from_list ys) y in cc)
one_list (x ∷ xs) [] one other same =
    absurd (let here = same x in let gone = contains-empty nat_cmp x in let there = there_after_insert (from_list xs) x in cc)
one_list (x ∷ xs) (y ∷ ys) one other same =
    let is = same_heads x y xs ys one other same in
    ap (λ n. n ∷ xs) is ∙ ap (λ l. y ∷ l) (one_list xs ys one.1 other.1 (same_tails x y xs ys one other is same))

-- a part of a range is ascending
above-range : (p : ℕ → Bool) (x a n : ℕ) → x < a → IsAbove x (filter p (range_with_len a n))
above-range p x a zero less = tt
above-range p x a (suc n) less = ⊎_elim
    (λ yes. rw yes (less, above-range p x (a + 1) n (omega (arith, less))))
    (λ no. rw no (above-range p x (a + 1) n (omega (arith, less))))
    (cases_Bool (p a))

ascends-range : (p : ℕ → Bool) (a n : ℕ) → Ascends (filter p (range_with_len a n))
ascends-range p a zero = tt
ascends-range p a (suc n) = ⊎_elim
    (λ yes. rw yes (above-range p a (a + 1) n (omega arith), ascends-range p (a + 1) n))
    (λ no. rw no (ascends-range p (a + 1) n))
    (cases_Bool (p a))

ascends-rising : (s : FinSet nat_cmp) → Ascends (rising s)
unfolding rising
ascends-rising s = ascends-range (contains s) 0 (greatest_of (items s) + 1 - 0)

-- the ascending list with one number more, in its place
abbrev pub put_number : ℕ → List ℕ → List ℕ
put_number n [] = n ∷ []
put_number n (x ∷ xs) = cond (nat_lt n x) (n ∷ x ∷ xs) (cond (nat_eq n x) (x ∷ xs) (x ∷ put_number n xs))

above-put : (x n : ℕ) (xs : List ℕ) → x < n → IsAbove x xs → IsAbove x (put_number n xs)
above-put x n [] less above = (less, tt)
above-put x n (y ∷ ys) less above = ⊎_elim
    (λ low. rw low (less, above))
    (λ high. rw high (⊎_elim (λ even. rw even above) (λ odd. rw odd (above.0, above-put x n ys less above.1)) (cases_Bool (nat_eq n y))))
    (cases_Bool (nat_lt n y))

ascends-put : (n : ℕ) (xs : List ℕ) → Ascends xs → Ascends (put_number n xs)
ascends-put n [] is = (tt, tt)
ascends-put n (x ∷ xs) is = ⊎_elim
    (λ low. let less : n < x = grind (arith, nat_tests) in rw low ((less, above_less n x xs less is.0), is))
    (λ high. rw high (⊎_elim
    (λ even. rw even is)
    (λ odd. let more : x < n = grind (arith, nat_tests) in rw odd (above-put x n xs more is.0, ascends-put n xs is.1))
    (cases_Bool (nat_eq n x))))
    (cases_Bool (nat_lt n x))

-- it has the numbers of the list and the new one
contains-put : (n : ℕ) (xs : List ℕ) (q : ℕ)
    → contains (from_list {R = nat_cmp} (put_number n xs)) q ≡ contains (insert (from_list {R = nat_cmp} xs) n) q
contains-put n [] q = refl
contains-put n (x ∷ xs) q =
    let rest = contains-put n xs q in
    ⊎_elim
    (λ low. rw low refl)
    (λ high. rw high (⊎_elim
    (λ even. rw even (let e : n ≡ x = grind (arith, nat_tests) in rw e (grind (members, unsigned_tied, arith, nat_tests))))
    (λ odd. rw odd (grind (members, unsigned_tied, arith, nat_tests)))
    (cases_Bool (nat_eq n x))))
    (cases_Bool (nat_lt n x))

-- the members with one more, ascending
pub rising-insert : (s : FinSet nat_cmp) (n : ℕ) → rising (insert s n) ≡ put_number n (rising s)
rising-insert s n =
    one_list (rising (insert s n)) (put_number n (rising s)) (ascends-rising (insert s n)) (ascends-put n (rising s) (ascends-rising s))
    (λ q. ap (λ t. contains t q) (from_list-rising (insert s n)) ∙ ap (λ t. contains (insert t n) q) (sym (from_list-rising s))
    ∙ sym (contains-put n (rising s) q))

-- there are none
pub rising-none : rising (empty {R = nat_cmp}) ≡ []
rising-none = rising-empty empty refl

-- the entries with one more or one written anew, ids ascending
pub entries-put : {X : Type 0} (m : FinMap nat_cmp X) (k : ℕ) (v : X) → entries (fin_map.insert m k v) ≡ put nat_cmp k v (entries m)
entries-put = entries-insert nat_cmp_total

-- there are none
pub entries-nothing : {X : Type 0} → entries (fin_map.empty {X = X} {R = nat_cmp}) ≡ []
entries-nothing {X} = entries_none fin_map.empty (λ q. get-empty nat_cmp q)

-- what computes the lines of known contents, with `digits` unfolded, by `simp shows`
pub ruleset shows = (rising-insert, rising-none, entries-put, entries-nothing)
