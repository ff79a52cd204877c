-- The members of a set between two places, as an ascending list.
use Rattle.std.proofs.Common.{⊎_elim, ◌≡◌, ℕ, zero, suc, ◌+◌, ◌-◌, ◌*◌, ◌<◌, ◌≤◌, Bool, true, false, [], ◌∷◌, ◌++◌, length, map}
use Rattle.std.proofs.Common.{refl, sym, ap, ◌∙◌, arith}
use Rattle.std.specs.Prelude.{All}
use Rattle.std.specs.List.{filter, range_with_len}
use Rattle.std.specs.List.Sorted.{IsStrictlyIncreasing}
use Rattle.std.specs.Ordering.{nat_cmp}
use Rattle.std.specs.Cmp.{nat_cmp_total}
use Rattle.std.specs.FinSet.{FinSet, contains, from_list, same_set, nat_cmp-IsAntisymmetric}
use Rattle.std.proofs.lemmas.Bool.{cases_lt, cases_Bool, false_from_ne_true}
use Rattle.std.proofs.lemmas.Bool.Decides.{nat_tests}
use Rattle.std.proofs.lemmas.List.Elements.{filter-append, filter_passes}
use Rattle.std.proofs.lemmas.List.FromFn.{length-range_with_len, get_or-range_with_len}
use Rattle.std.proofs.lemmas.List.Kept.{IsStrictlyIncreasing-filter}
use Rattle.wic_bitset.specs.Rising.{members_between, word_members}
use Rattle.wic_bitset.proofs.DivisionFacts.{next_start}
use Rattle.wic_base.proofs.RangeFacts.{filter_none_in, range_append}
use Rattle.wic_base.proofs.SetFacts.{contains-filter_range}

-- ---- a range that a test filters

-- moved up
pub filter_shift : (p q : ℕ → Bool) (a b n : ℕ) → ((j : ℕ) → b ≤ j → j < b + n → p j ≡ q (a + j))
    → map (λ j. a + j) (filter p (range_with_len b n)) ≡ filter q (range_with_len (a + b) n)
filter_shift p q a b zero same = refl
filter_shift p q a b (suc n) same =
    let e : a + b + 1 ≡ a + (b + 1) = omega arith in
    let rest : map (λ j. a + j) (filter p (range_with_len (b + 1) n)) ≡ filter q (range_with_len (a + b + 1) n) =
    filter_shift p q a (b + 1) n (λ j low high. same j (omega arith) (omega arith)) ∙ ap (λ m. filter q (range_with_len m n)) (sym e) in
    let here : p b ≡ q (a + b) = same b (omega arith) (omega arith) in
    ⊎_elim
    (λ has. let moved : q (a + b) ≡ true = sym here ∙ has in rw (has, moved) (ap (λ xs. (a + b) ∷ xs) rest))
    (λ none. let moved : q (a + b) ≡ false = sym here ∙ none in rw (none, moved) rest)
    (cases_Bool (p b))

-- ---- the members between two places

-- if there is none
pub between-none : (s : FinSet nat_cmp) (a b : ℕ) → ((i : ℕ) → a ≤ i → i < b → contains s i ≡ false) → members_between s a b ≡ []
between-none s a b none = filter_none_in (contains s) a (b - a) (λ i low high. none i low (omega arith))

-- up to a place, and from there on
pub between-split : (s : FinSet nat_cmp) (a b c : ℕ) → a ≤ b → b ≤ c
    → members_between s a c ≡ members_between s a b ++ members_between s b c
between-split s a b c first second =
    let whole : c - a ≡ (b - a) + (c - b) = omega arith in
    let middle : a + (b - a) ≡ b = omega arith in
    ap (λ n. filter (contains s) (range_with_len a n)) whole
    ∙ ap (filter (contains s)) (range_append a (b - a) (c - b))
    ∙ filter-append (contains s) (range_with_len a (b - a)) (range_with_len (a + (b - a)) (c - b))
    ∙ ap (λ m. members_between s a b ++ filter (contains s) (range_with_len m (c - b))) middle

-- one word, and the words after it
pub between-first_word : (w : ℕ) (s : FinSet nat_cmp) (k n : ℕ) → (k + 1) * w ≤ n
    → members_between s (k * w) n ≡ word_members w s k ++ members_between s ((k + 1) * w) n
between-first_word w s k n within =
    let next = next_start k w in
    between-split s (k * w) ((k + 1) * w) n (omega arith) within
    ∙ ap (λ m. members_between s (k * w) m ++ members_between s ((k + 1) * w) n) next

-- one word more
pub between-last_word : (w : ℕ) (s : FinSet nat_cmp) (k : ℕ)
    → members_between s 0 ((k + 1) * w) ≡ members_between s 0 (k * w) ++ word_members w s k
between-last_word w s k =
    ap (members_between s 0) (next_start k w) ∙ between-split s 0 (k * w) (k * w + w) (omega arith) (omega arith)

-- one number more
pub between-last : (s : FinSet nat_cmp) (n : ℕ) → members_between s 0 (suc n) ≡ members_between s 0 n ++ filter (contains s) (n ∷ [])
between-last s n =
    let one : suc n - n ≡ 1 = omega arith in
    between-split s 0 n (suc n) (omega arith) (omega arith)
    ∙ ap (λ m. members_between s 0 n ++ filter (contains s) (range_with_len n m)) one

-- the whole list has the members
pub from_list-between : (s : FinSet nat_cmp) (end : ℕ) → ((i : ℕ) → contains s i ≡ true → i < end)
    → from_list (members_between s 0 end) ≡ s
from_list-between s end below = same_set nat_cmp_total nat_cmp-IsAntisymmetric _ _ (λ q.
    contains-filter_range (contains s) 0 (end - 0) q ∙ ⊎_elim
    (λ inside. grind (arith, nat_tests))
    (λ above. let none : contains s q ≡ false = false_from_ne_true (contains s q) (λ has. absurd (let h = below q has in omega arith)) in
    grind (arith, nat_tests))
    (cases_lt q end))

-- and it is ascending
pub IsStrictlyIncreasing-between : (s : FinSet nat_cmp) (a b : ℕ) → IsStrictlyIncreasing (members_between s a b)
IsStrictlyIncreasing-between s a b =
    IsStrictlyIncreasing-filter (contains s) (range_with_len a (b - a)) (λ k h.
    let l : length (range_with_len a (b - a)) ≡ b - a = length-range_with_len a (b - a) in
    omega (arith, get_or-range_with_len a (b - a) k 0 (omega arith), get_or-range_with_len a (b - a) (k + 1) 0 (omega arith)))

-- what is true of each member is true of each of these
pub All-between : (P : ℕ → Type 0) (s : FinSet nat_cmp) (a b : ℕ) → ((i : ℕ) → contains s i ≡ true → P i) → All P (members_between s a b)
All-between P s a b each k d within = each _ (filter_passes (contains s) (range_with_len a (b - a)) k d within)
