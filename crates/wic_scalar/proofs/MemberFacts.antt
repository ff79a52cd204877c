-- The members of a number's set.
use Rattle.std.proofs.Common.{⊎_elim, ◌≡◌, ℕ, zero, suc, ◌+◌, ◌-◌, ◌*◌, ◌^◌, ◌/◌, ◌%◌, ◌<◌, ◌≤◌, true, false, not, ◌&&◌, ◌||◌}
use Rattle.std.proofs.Common.{[], ◌∷◌, ◌++◌, length, sym, ap, ◌∙◌, arith, append-nil}
use Rattle.std.proofs.Common.{length-append}
use Rattle.std.specs.Prelude.{◌==◌, nat_lt, nat_eq, All, Some, None}
use Rattle.std.specs.List.Sorted.{IsStrictlyIncreasing}
use Rattle.std.specs.List.{filter, range_with_len, last_or, slice_get}
use Rattle.std.specs.Ordering.{nat_cmp, eq_by_cmp}
use Rattle.std.specs.Cmp.{nat_cmp_total, unsigned_tied}
use Rattle.std.specs.FinSet.{FinSet, empty, contains, insert, remove, same_set, contains-insert, contains-remove}
use Rattle.std.specs.FinSet.{nat_cmp-IsAntisymmetric}
use Rattle.std.proofs.lemmas.Bool.{cases_lt, cases_Bool, false_from_ne_true}
use Rattle.std.proofs.lemmas.Bool.Decides.{nat_tests}
use Rattle.std.proofs.lemmas.List.Elements.{All-nil, All-cons, filter-append}
use Rattle.std.proofs.lemmas.List.Kept.{IsStrictlyIncreasing-filter}
use Rattle.std.proofs.lemmas.List.FromFn.{length-range_with_len, get_or-range_with_len}
use Rattle.std.proofs.lemmas.Nat.{pow_pos, div_below, mod_below, shr_split, ones_cat}
use Rattle.std.proofs.Math.Nat.{pow-suc}
use lib.Count.{ones, ones-ones}
use Rattle.wic_scalar.specs.Digits.{is_one, SameDigits, IsLowZeros, IsHighZeros, IsWithoutLowest}
use Rattle.wic_scalar.specs.Scalar.{members_of, set_of}
use Rattle.wic_base.specs.Sets.{IsGreatest, IsLeast}
use Rattle.wic_scalar.proofs.DigitFacts.{is_one-mod, top_digit}
use Rattle.wic_base.proofs.RangeFacts.{filter_agree_in, filter_all_in, filter_first, filter_last, filter_none_in, range_append}
use Rattle.wic_base.proofs.RangeFacts.{first_of_filter, last_of_filter}
use Rattle.wic_base.proofs.SetFacts.{contains-filter_range, none_in_empty}

-- ---- the set of a number

-- the members are the places below the width whose digit is 1
pub contains-set_of : (w n q : ℕ) → contains (set_of w n) q ≡ (nat_lt q w && is_one n q)
unfolding members_of
contains-set_of w n q = contains-filter_range (is_one n) 0 w q ∙ grind (arith, nat_tests)

same_members : (w : ℕ) (n : ℕ) (s : FinSet nat_cmp) → ((q : ℕ) → contains s q ≡ (nat_lt q w && is_one n q)) → set_of w n ≡ s
same_members w n s is = same_set nat_cmp_total nat_cmp-IsAntisymmetric (set_of w n) s (λ q. contains-set_of w n q ∙ sym (is q))

-- no member is at the width or above
pub below_width : (w n k : ℕ) → contains (set_of w n) k ≡ true → k < w
below_width w n k there = let e : (nat_lt k w && is_one n k) ≡ true = sym (contains-set_of w n k) ∙ there in grind (arith, nat_tests)

-- a number below the width by its digit
pub contains_below : (w n k : ℕ) → k < w → contains (set_of w n) k ≡ is_one n k
contains_below w n k below = contains-set_of w n k ∙ grind (arith, nat_tests)

-- i is put in
pub set_of-insert : (w n m i : ℕ) → i < w → ((q : ℕ) → q < w → is_one m q ≡ (is_one n q || (q == i))) → set_of w m ≡ insert (set_of w n) i
set_of-insert w n m i within digits =
    same_members w m (insert (set_of w n) i) (λ q.
    let c : contains (insert (set_of w n) i) q ≡ (eq_by_cmp nat_cmp q i || contains (set_of w n) q) =
    contains-insert nat_cmp_total (set_of w n) i q in
    let t : eq_by_cmp nat_cmp q i ≡ nat_eq q i = unsigned_tied q i in
    let old : contains (set_of w n) q ≡ (nat_lt q w && is_one n q) = contains-set_of w n q in
    ⊎_elim
    (λ below. let d = digits q below in grind (arith, nat_tests))
    (λ above. grind (arith, nat_tests))
    (cases_lt q w))

-- i is taken out
pub set_of-remove : (w n m i : ℕ) → ((q : ℕ) → q < w → is_one m q ≡ (is_one n q && not (q == i))) → set_of w m ≡ remove (set_of w n) i
set_of-remove w n m i digits =
    same_members w m (remove (set_of w n) i) (λ q.
    let c : contains (remove (set_of w n) i) q ≡ (not (eq_by_cmp nat_cmp q i) && contains (set_of w n) q) =
    contains-remove nat_cmp_total (set_of w n) i q in
    let t : eq_by_cmp nat_cmp q i ≡ nat_eq q i = unsigned_tied q i in
    let old : contains (set_of w n) q ≡ (nat_lt q w && is_one n q) = contains-set_of w n q in
    ⊎_elim
    (λ below. let d = digits q below in grind (arith, nat_tests))
    (λ above. grind (arith, nat_tests))
    (cases_lt q w))

-- ---- the list of members

-- numbers with the same digits have the same members
pub members_of-same : (w m n : ℕ) → SameDigits w m n → members_of w m ≡ members_of w n
unfolding members_of
members_of-same w m n same = filter_agree_in (is_one m) (is_one n) 0 w (λ i _ h. same i (omega arith))

-- a number with no digit 1 has no members
pub members_of-none : (w n : ℕ) → ((i : ℕ) → i < w → is_one n i ≡ false) → members_of w n ≡ []
unfolding members_of
members_of-none w n none = filter_none_in (is_one n) 0 w (λ i _ h. none i (omega arith))

-- two numbers with the same set have the same digits
pub same_from_sets : (w m n : ℕ) → set_of w m ≡ set_of w n → SameDigits w m n
same_from_sets w m n same i below = sym (contains_below w m i below) ∙ ap (λ t. contains t i) same ∙ contains_below w n i below

-- a number with the empty set has no digit 1
pub none_from_empty : (w n i : ℕ) → set_of w n ≡ empty → i < w → is_one n i ≡ false
none_from_empty w n i none below = sym (contains_below w n i below) ∙ none_in_empty (set_of w n) none i

-- an empty set has the empty list of members
pub no_members_of_empty : (w n : ℕ) → set_of w n ≡ empty → members_of w n ≡ []
no_members_of_empty w n none = members_of-none w n (λ i h. none_from_empty w n i none h)

-- the members are ascending
pub rising-members_of : (w n : ℕ) → IsStrictlyIncreasing (members_of w n)
unfolding members_of
rising-members_of w n =
    IsStrictlyIncreasing-filter (is_one n) (range_with_len 0 w) (λ k h.
    let l : length (range_with_len 0 w) ≡ w = length-range_with_len 0 w in
    omega (arith, get_or-range_with_len 0 w k 0 (omega arith), get_or-range_with_len 0 w (k + 1) 0 (omega arith)))

-- the numbers from lo to below hi
pub members_of-range : (w n lo hi : ℕ) → lo ≤ hi → hi ≤ w → ((i : ℕ) → i < w → is_one n i ≡ (nat_lt i hi && not (nat_lt i lo)))
    → members_of w n ≡ range_with_len lo (hi - lo)
unfolding members_of
members_of-range w n lo hi p q digits =
    let e : w ≡ lo + ((hi - lo) + (w - hi)) = omega arith in
    let start : 0 + lo ≡ lo = omega arith in
    let end : lo + (hi - lo) ≡ hi = omega arith in
    let cut : range_with_len 0 w ≡ range_with_len 0 lo ++ (range_with_len lo (hi - lo) ++ range_with_len hi (w - hi)) =
    ap (range_with_len 0) e ∙ range_append 0 lo _
    ∙ ap (λ xs. range_with_len 0 lo ++ xs)
    (ap (λ a. range_with_len a ((hi - lo) + (w - hi))) start ∙ range_append lo (hi - lo) (w - hi)
    ∙ ap (λ a. range_with_len lo (hi - lo) ++ range_with_len a (w - hi)) end)
    in
    let low : filter (is_one n) (range_with_len 0 lo) ≡ [] =
    filter_none_in (is_one n) 0 lo (λ i _ h. let d = digits i (omega arith) in grind (arith, nat_tests)) in
    let mid : filter (is_one n) (range_with_len lo (hi - lo)) ≡ range_with_len lo (hi - lo) =
    filter_all_in (is_one n) lo (hi - lo) (λ i l h. let d = digits i (omega arith) in grind (arith, nat_tests)) in
    let high : filter (is_one n) (range_with_len hi (w - hi)) ≡ [] =
    filter_none_in (is_one n) hi (w - hi) (λ i l h. let d = digits i (omega arith) in grind (arith, nat_tests)) in
    rw (cut, filter-append, filter-append, low, mid, high) (append-nil _)

-- ---- the least and the greatest member

-- what is true of each place whose digit is 1 is true of each member
pub All-members_of : (P : ℕ → Type 0) (w n : ℕ) → ((i : ℕ) → i < w → is_one n i ≡ true → P i) → All P (members_of w n)
unfolding members_of
All-members_of P w n each = go 0 w (λ i low high one. each i (omega arith) one)
  where
    go : (a m : ℕ) → ((i : ℕ) → a ≤ i → i < a + m → is_one n i ≡ true → P i) → All P (filter (is_one n) (range_with_len a m))
    go a zero each = All-nil P
    go a (suc m) each =
        let rest : All P (filter (is_one n) (range_with_len (a + 1) m)) =
        go (a + 1) m (λ i low high one. each i (omega arith) (omega arith) one) in
        ⊎_elim
        (λ yes. rw yes (All-cons P a _ (each a (omega arith) (omega arith) yes) rest))
        (λ no. rw no rest)
        (cases_Bool (is_one n a))

-- ---- how many members there are

range_push : (a n : ℕ) → range_with_len a (suc n) ≡ range_with_len a n ++ (a + n) ∷ []
range_push a n = let e : suc n ≡ n + 1 = omega arith in ap (range_with_len a) e ∙ range_append a n 1

-- there are as many members as digits 1
pub count-members_of : (w n : ℕ) → n < 2 ^ w → ones n ≡ length (members_of w n)
unfolding members_of
count-members_of zero n fits = let e : n ≡ 0 = omega arith in ap ones e ∙ ones-ones 0
count-members_of (suc w) n fits =
    let twice : 2 ^ suc w ≡ 2 ^ w * 2 = pow-suc 2 w in
    let some : 0 < 2 ^ w = pow_pos w in
    let high : n / 2 ^ w < 2 = div_below n (2 ^ w) 2 some (omega arith) in
    let low : n % 2 ^ w < 2 ^ w = mod_below n (2 ^ w) some in
    let split : n / 2 ^ w * 2 ^ w + n % 2 ^ w ≡ n = shr_split n w in
    let counts : ones n ≡ ones (n / 2 ^ w) + ones (n % 2 ^ w) = ap ones (sym split) ∙ ones_cat w (n / 2 ^ w) (n % 2 ^ w) low in
    let rest : ones (n % 2 ^ w) ≡ length (filter (is_one (n % 2 ^ w)) (range_with_len 0 w)) = count-members_of w (n % 2 ^ w) low in
    let same : filter (is_one (n % 2 ^ w)) (range_with_len 0 w) ≡ filter (is_one n) (range_with_len 0 w) =
    filter_agree_in (is_one (n % 2 ^ w)) (is_one n) 0 w (λ i _ h. is_one-mod n w i (omega arith)) in
    let start : 0 + w ≡ w = omega arith in
    let pushed : filter (is_one n) (range_with_len 0 (suc w)) ≡ filter (is_one n) (range_with_len 0 w) ++ filter (is_one n) (w ∷ []) =
    ap (filter (is_one n)) (range_push 0 w ∙ ap (λ k. range_with_len 0 w ++ k ∷ []) start)
    ∙ filter-append (is_one n) (range_with_len 0 w) (w ∷ []) in
    let long : length (filter (is_one n) (range_with_len 0 (suc w))) ≡ length (filter (is_one n) (range_with_len 0 w)) + length
    (filter (is_one n) (w ∷ [])) =
    ap length pushed ∙ length-append (filter (is_one n) (range_with_len 0 w)) (filter (is_one n) (w ∷ [])) in
    let below : ones (n % 2 ^ w) ≡ length (filter (is_one n) (range_with_len 0 w)) = rest ∙ ap length same in
    let top : ones (n / 2 ^ w) ≡ length (filter (is_one n) (w ∷ [])) = ⊎_elim
    (λ (one, digit). rw (one, digit) (ones-ones 1))
    (λ (none, digit). rw (none, digit) (ones-ones 0))
    (top_digit n w high) in
    omega arith

-- if z digits 0 stand below the lowest digit 1, z is the least member
pub least_member : (w n z : ℕ) → IsLowZeros w n z → z < w → IsLeast (set_of w n) z
least_member w n z low within = record {
  member = contains_below w n z within ∙ low.one within;
  least = λ i there.
      let one : is_one n i ≡ true = sym (contains_below w n i (below_width w n i there)) ∙ there in
      ⊎_elim (λ below. let none = low.zeros i below in absurd (cc)) (λ above. above) (cases_lt i z);
}

-- and the least member is the place of the lowest digit 1
low_zeros_from_least : (w n z : ℕ) → z < w → IsLeast (set_of w n) z → IsLowZeros w n z
low_zeros_from_least w n z within least = record {
  within = omega arith;
  zeros = λ i before. false_from_ne_true (is_one n i)
      (λ one. let at : z ≤ i = least.least i (contains_below w n i (omega arith) ∙ one) in omega arith);
  one = λ h. sym (contains_below w n z h) ∙ least.member;
}

-- so without its lowest digit 1 a number's set is without its least member
pub least_taken_out : (w n m z : ℕ) → z < w → IsLeast (set_of w n) z → IsWithoutLowest w n m → set_of w m ≡ remove (set_of w n) z
least_taken_out w n m z within least without =
    set_of-remove w n m z (without z (low_zeros_from_least w n z within least))

-- if y digits 0 stand above the highest digit 1, the place below them is the greatest member
pub greatest_member : (w n y z : ℕ) → IsHighZeros w n y → z + y + 1 ≡ w → IsGreatest (set_of w n) z
greatest_member w n y z high at = record {
  member = contains_below w n z (omega arith) ∙ high.one z at;
  greatest = λ i there.
      let within : i < w = below_width w n i there in
      let one : is_one n i ≡ true = sym (contains_below w n i within) ∙ there in
      ⊎_elim (λ above. let none = high.zeros i (omega arith) within in absurd (cc)) (λ below. below) (cases_lt z i);
}

-- the least member is the first of the list
pub first-members_of : (w n x : ℕ) → IsLeast (set_of w n) x → slice_get (members_of w n) 0 ≡ Some x
unfolding members_of
first-members_of w n x least =
    let here : x < w = below_width w n x least.member in
    first_of_filter (is_one n) x 0 w (omega arith) (omega arith) (sym (contains_below w n x here) ∙ least.member)
    (λ i _ before. false_from_ne_true (is_one n i)
    (λ one. let at : x ≤ i = least.least i (contains_below w n i (omega arith) ∙ one) in omega arith))

-- the greatest member is the last of the list
pub last-members_of : (w n x : ℕ) → IsGreatest (set_of w n) x → last_or None (members_of w n) ≡ Some x
unfolding members_of
last-members_of w n x greatest =
    let here : x < w = below_width w n x greatest.member in
    last_of_filter (is_one n) x 0 w (omega arith) (omega arith) (sym (contains_below w n x here) ∙ greatest.member)
    (λ i after h. false_from_ne_true (is_one n i)
    (λ one. let at : i ≤ x = greatest.greatest i (contains_below w n i (omega arith) ∙ one) in omega arith))

-- ---- one member taken out

digit_without : (w n m x i : ℕ) → set_of w m ≡ remove (set_of w n) x → i < w → is_one m i ≡ (is_one n i && not (i == x))
digit_without w n m x i taken below =
    let e : contains (set_of w m) i ≡ contains (remove (set_of w n) x) i = ap (λ t. contains t i) taken in
    let c : contains (remove (set_of w n) x) i ≡ (not (eq_by_cmp nat_cmp i x) && contains (set_of w n) i) =
    contains-remove nat_cmp_total (set_of w n) x i in
    let t : eq_by_cmp nat_cmp i x ≡ nat_eq i x = unsigned_tied i x in
    let new = contains-set_of w m i in
    let old = contains-set_of w n i in
    grind (arith, nat_tests)

-- the least member stood first
pub least_stands_first : (w n m x : ℕ) → IsLeast (set_of w n) x → set_of w m ≡ remove (set_of w n) x
    → members_of w n ≡ x ∷ members_of w m
unfolding members_of
least_stands_first w n m x least taken =
    let here : x < w = below_width w n x least.member in
    filter_first (is_one n) (is_one m) x 0 w (omega arith) (omega arith) (sym (contains_below w n x here) ∙ least.member)
    (λ i _ before. false_from_ne_true (is_one n i)
    (λ one. let at : x ≤ i = least.least i (contains_below w n i (omega arith) ∙ one) in omega arith))
    (λ i _ h. digit_without w n m x i taken (omega arith))

-- the greatest member stood last
pub greatest_stands_last : (w n m x : ℕ) → IsGreatest (set_of w n) x → set_of w m ≡ remove (set_of w n) x
    → members_of w n ≡ members_of w m ++ x ∷ []
unfolding members_of
greatest_stands_last w n m x greatest taken =
    let here : x < w = below_width w n x greatest.member in
    filter_last (is_one n) (is_one m) x 0 w (omega arith) (omega arith) (sym (contains_below w n x here) ∙ greatest.member)
    (λ i after h. false_from_ne_true (is_one n i)
    (λ one. let at : i ≤ x = greatest.greatest i (contains_below w n i (omega arith) ∙ one) in omega arith))
    (λ i _ h. digit_without w n m x i taken (omega arith))

-- so the list is one shorter
pub one_shorter : (w n m x : ℕ) → IsGreatest (set_of w n) x → set_of w m ≡ remove (set_of w n) x
    → length (members_of w n) ≡ length (members_of w m) + 1
one_shorter w n m x greatest taken =
    ap length (greatest_stands_last w n m x greatest taken) ∙ length-append (members_of w m) (x ∷ [])

-- a step of a walk at its front
pub ruleset front_step = (least_stands_first, no_members_of_empty)

-- a step of a walk at its back
pub ruleset back_step = (greatest_stands_last, one_shorter, no_members_of_empty)
