-- The calls of a set, from the laws of its storage.
use Rattle.std.proofs.Common.{⊎_elim, ◌≡◌, ℕ, ◌+◌, ◌-◌, ◌<◌, ◌≤◌, Bool, true, false, not, ◌&&◌, ◌||◌, cond, length, sym, ap, ◌∙◌}
use Rattle.std.proofs.Common.{arith, ◌↔◌, IsTrue}
use Rattle.std.specs.Prelude.{◌==◌, nat_lt, nat_eq}
use Rattle.std.specs.List.{range_with_len}
use Rattle.std.specs.Cmp.{nat_cmp_total}
use Rattle.std.specs.Ordering.{nat_cmp}
use Rattle.std.specs.FinSet.{FinSet, empty, contains, insert, remove, from_list, len, len-insert}
use Rattle.std.proofs.lemmas.Bool.{cases_eq, cases_lt, cases_Bool, iff_false}
use Rattle.std.proofs.lemmas.Bool.Decides.{nat_tests, same_from_decides}
use Rattle.std.specs.Cmp.Lexicographic.{pointwise, bytes_decides}
use Rattle.wic_scalar.specs.Digits.{is_one, SameDigits, IsLowZeros, IsHighZeros}
use Rattle.wic_scalar.specs.Scalar.{members_of, set_of}
use Rattle.wic_base.proofs.SetFacts.{at_most_in, count_in, insert-remove, gone_after_remove, remove_absent}
use Rattle.wic_scalar.proofs.MemberFacts.{contains-set_of, set_of-insert, set_of-remove, members_of-none, none_from_empty}
use Rattle.wic_scalar.proofs.MemberFacts.{members_of-range, members_of-same, same_from_sets}

-- z is the number 0
abbrev pub IsZero : ℕ → Type 0
IsZero z = (k : ℕ) → is_one z k ≡ false

-- b has the digit i alone
abbrev pub IsBit : ℕ → ℕ → Type 0
IsBit b i = (k : ℕ) → is_one b k ≡ (k == i)

-- the set of a number with no digit 1 is the empty one
pub set_of-none : (w n : ℕ) → ((i : ℕ) → i < w → is_one n i ≡ false) → set_of w n ≡ empty
set_of-none w n none = ap from_list (members_of-none w n none)

-- so is that of 0
pub set_of-zero : (w z : ℕ) → IsZero z → set_of w z ≡ empty
set_of-zero w z zero' = set_of-none w z (λ k _. zero' k)

-- the test `n == 0`
pub is_empty_from_test : (w n z : ℕ) (r : Bool) → IsZero z → (IsTrue r ↔ SameDigits w n z) → (IsTrue r ↔ (set_of w n ≡ empty))
is_empty_from_test w n z r zero' test = (
  λ yes. set_of-none w n (λ k h. test.0 yes k h ∙ zero' k),
  λ none. test.1 (λ k h. none_from_empty w n k none h ∙ sym (zero' k)),
)

-- the test `n & b != 0`, if b has the digit i alone
pub contains_from_test : (w n i b a z : ℕ) (r : Bool) → i < w → IsBit b i → ((k : ℕ) → is_one a k ≡ (is_one n k && is_one b k))
    → IsZero z → (IsTrue r ↔ SameDigits w a z) → not r ≡ contains (set_of w n) i
contains_from_test w n i b a z r within bit both zero' test =
    let has : contains (set_of w n) i ≡ (nat_lt i w && is_one n i) = contains-set_of w n i in
    let bit_i : is_one b i ≡ (i == i) = bit i in
    let both_i : is_one a i ≡ (is_one n i && is_one b i) = both i in
    ⊎_elim
    (λ yes. let same : is_one a i ≡ false = test.0 yes i within ∙ zero' i in grind (arith, nat_tests))
    (λ no. ⊎_elim
    (λ one. grind (arith, nat_tests))
    (λ none. absurd (iff_false test no (λ k h.
    let at : is_one a k ≡ (is_one n k && is_one b k) = both k in
    let bit_k : is_one b k ≡ (k == i) = bit k in
    let zero_k : is_one z k ≡ false = zero' k in
    ⊎_elim
    (λ same. let e : is_one n k ≡ false = ap (is_one n) same ∙ none in grind (arith, nat_tests))
    (λ apart. grind (arith, nat_tests))
    (cases_eq k i))))
    (cases_Bool (is_one n i)))
    (cases_Bool r)

-- the digits of n and the digit i: i is put in
pub insert_from_or : (w n m i b : ℕ) → i < w → IsBit b i → ((k : ℕ) → is_one m k ≡ (is_one n k || is_one b k))
    → set_of w m ≡ insert (set_of w n) i
insert_from_or w n m i b within bit either = set_of-insert w n m i within (λ k _. either k ∙ ap (λ x. is_one n k || x) (bit k))

-- the digits of n without i
pub without_from_and : (w n m i b c : ℕ) → IsBit b i → ((k : ℕ) → k < w → is_one c k ≡ not (is_one b k))
    → ((k : ℕ) → is_one m k ≡ (is_one n k && is_one c k)) → (k : ℕ) → k < w → is_one m k ≡ (is_one n k && not (k == i))
without_from_and w n m i b c bit other both k h = both k ∙ ap (λ x. is_one n k && x) (other k h ∙ ap not (bit k))

-- so i is taken out
pub remove_from_and : (w n m i b c : ℕ) → IsBit b i → ((k : ℕ) → k < w → is_one c k ≡ not (is_one b k))
    → ((k : ℕ) → is_one m k ≡ (is_one n k && is_one c k)) → set_of w m ≡ remove (set_of w n) i
remove_from_and w n m i b c bit other both = set_of-remove w n m i (without_from_and w n m i b c bit other both)

-- the digits below hi that aren't below lo are the set of that range
pub range_from_and : (w n lo hi a b c : ℕ) → lo ≤ hi → hi ≤ w → ((k : ℕ) → is_one a k ≡ nat_lt k hi)
    → ((k : ℕ) → is_one b k ≡ nat_lt k lo) → ((k : ℕ) → k < w → is_one c k ≡ not (is_one b k))
    → ((k : ℕ) → is_one n k ≡ (is_one a k && is_one c k)) → set_of w n ≡ from_list (range_with_len lo (hi - lo))
range_from_and w n lo hi a b c p q high low other both =
    ap from_list (members_of-range w n lo hi p q
    (λ k h. both k ∙ ap (λ x. x && is_one c k) (high k) ∙ ap (λ x. nat_lt k hi && x) (other k h ∙ ap not (low k))))

-- if there is a member, fewer digits 0 than the width stand below the lowest digit 1
pub low_below : (w n z : ℕ) (r : Bool) → IsLowZeros w n z → (IsTrue r ↔ (set_of w n ≡ empty)) → r ≡ false → z < w
low_below w n z r low test fails =
    ⊎_elim (λ below. below) (λ above. absurd (iff_false test fails (set_of-none w n (λ k h. low.zeros k (omega arith)))))
    (cases_lt z w)

-- and above the highest
pub high_below : (w n z : ℕ) (r : Bool) → IsHighZeros w n z → (IsTrue r ↔ (set_of w n ≡ empty)) → r ≡ false → z < w
high_below w n z r high test fails =
    ⊎_elim (λ below. below) (λ above. absurd (iff_false test fails (set_of-none w n (λ k h. high.zeros k (omega arith) h))))
    (cases_lt z w)

-- ---- equality

-- numbers with the same digits have the same set
pub set_of-same : (w m n : ℕ) → SameDigits w m n → set_of w m ≡ set_of w n
set_of-same w m n same = ap from_list (members_of-same w m n same)

-- two numbers have the same set if the test says that their digits are the same
pub same_set_from_test : (w m n : ℕ) (r : Bool) → (IsTrue r ↔ SameDigits w m n) → (IsTrue r ↔ (set_of w m ≡ set_of w n))
same_set_from_test w m n r test = (
  λ yes. set_of-same w m n (test.0 yes),
  λ same. test.1 (same_from_sets w m n same),
)

-- that test compares the lists of members
pub eq_from_test : (w m n : ℕ) (r : Bool) → (IsTrue r ↔ SameDigits w m n) → r ≡ pointwise nat_eq (members_of w m) (members_of w n)
eq_from_test w m n r test =
    same_from_decides r (pointwise nat_eq (members_of w m) (members_of w n))
    (λ yes. members_of-same w m n (test.0 yes), λ same. test.1 (same_from_sets w m n (ap from_list same)))
    (bytes_decides (members_of w m) (members_of w n))

-- ---- how many members there are

-- the set has as many members as its list
pub as_many_listed : (w n : ℕ) → len (set_of w n) ≡ length (members_of w n)
unfolding members_of
as_many_listed w n = count_in (is_one n) 0 w

-- no more than the width
pub at_most_width : (w n : ℕ) → len (set_of w n) ≤ w
unfolding members_of
at_most_width w n = let most : length (members_of w n) ≤ w = at_most_in (is_one n) 0 w in let e = as_many_listed w n in omega arith

-- one more once a number is put in that wasn't there
pub len-inserted : (s t : FinSet nat_cmp) (i : ℕ) (new : Bool) → new ≡ not (contains s i) → t ≡ insert s i
    → len t ≡ len s + cond new 1 0
len-inserted s t i new is set =
    let counted = len-insert nat_cmp_total s i in
    let same : len t ≡ len (insert s i) = ap len set in
    ⊎_elim
    (λ yes. let e = rw yes at counted in let no : new ≡ false = is ∙ ap not yes in rw no (omega arith))
    (λ no. let e = rw no at counted in let yes : new ≡ true = is ∙ ap not no in rw yes (omega arith))
    (cases_Bool (contains s i))

-- one less once a member is taken out
pub len-removed : (s t : FinSet nat_cmp) (i : ℕ) (there : Bool) → there ≡ contains s i → t ≡ remove s i
    → len t + cond there 1 0 ≡ len s
len-removed s t i there is set =
    let again = len-insert nat_cmp_total t i in
    ⊎_elim
    (λ yes.
    let back : insert t i ≡ s = ap (λ u. insert u i) set ∙ insert-remove s i yes in
    let gone : contains t i ≡ false = ap (λ u. contains u i) set ∙ gone_after_remove s i in
    let e = rw (gone, back) at again in
    let here : there ≡ true = is ∙ yes in rw here (omega arith))
    (λ no.
    let same : len t ≡ len s = ap len (set ∙ remove_absent s i no) in
    let absent : there ≡ false = is ∙ no in rw absent (omega arith))
    (cases_Bool (contains s i))
