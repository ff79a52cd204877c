-- The digits of a number.
use Rattle.std.proofs.Common.{⊎_elim, ◌≡◌, ℕ, zero, suc, ◌+◌, ◌-◌, ◌*◌, ◌^◌, ◌/◌, ◌%◌, ◌<◌, ◌≤◌, true, false, not, ◌&&◌, ◌||◌, ◌⊎◌, refl}
use Rattle.std.proofs.Common.{sym, ap, subst, ◌∙◌, inl, inr, arith, ◌↔◌, bit_and, bit_or, IsTrue}
use Rattle.std.specs.Prelude.{◌==◌, nat_lt, nat_eq}
use Rattle.std.specs.Int.{bit_at}
use Rattle.std.proofs.lemmas.Bool.{cases_eq, cases_lt, cases_Bool}
use Rattle.std.proofs.lemmas.Bool.Decides.{nat_tests}
use Rattle.std.proofs.lemmas.Nat.{and-not, one_shl, pow_below, pow_pos, leading_top, le-div, div_below, shr_split, mod_low}
use Rattle.std.proofs.Math.Nat.{eq-zero-or-pos, pow-suc}
use Rattle.std.proofs.lemmas.Nat.Bits.{bit_at-zero, bit_at_and, bit_at_or, bit_at-pow_same, bit_at-pow_other, bit_at_ones}
use Rattle.std.proofs.lemmas.Nat.Bits.{bit_at_ones_above, bit_at-lt, same_from_bits_below, and_pow, ones_shr, bit_at-suc, bit_at_lowest}
use Rattle.std.proofs.lemmas.Nat.Bits.{bit_at_above, bit_at_cat_low}
use lib.Count.{count_leading_zeros, count_trailing_zeros}
use Rattle.wic_scalar.specs.Digits.{is_one, SameDigits, IsLowZeros, IsHighZeros, IsWithoutLowest}

-- a digit is 1 or 0
pub digit_cases : (n i : ℕ) → ((bit_at n i ≡ 1) × (is_one n i ≡ true)) ⊎ ((bit_at n i ≡ 0) × (is_one n i ≡ false))
unfolding is_one
digit_cases n i = let b : bit_at n i < 2 = bit_at-lt n i in grind (arith, nat_tests)

-- 0 has no digit 1
pub is_one-zero : (i : ℕ) → is_one 0 i ≡ false
is_one-zero i = let z = bit_at-zero i in grind (arith, digit_cases 0 i)

-- a digit of `a & b`
pub is_one-bit_and : (a b i : ℕ) → is_one (bit_and a b) i ≡ (is_one a i && is_one b i)
is_one-bit_and a b i = let e = bit_at_and a b i in grind (arith, digit_cases (bit_and a b) i, digit_cases a i, digit_cases b i)

-- a digit of `a | b`
pub is_one-bit_or : (a b i : ℕ) → is_one (bit_or a b) i ≡ (is_one a i || is_one b i)
is_one-bit_or a b i = let e = bit_at_or a b i in grind (arith, digit_cases (bit_or a b) i, digit_cases a i, digit_cases b i)

-- 1 shifted by i, at the width w
pub is_one-pow : (w i k : ℕ) → i < w → is_one (1 * 2 ^ i % 2 ^ w) k ≡ (k == i)
is_one-pow w i k h =
    rw (one_shl i w h) (⊎_elim
    (λ same. let at : bit_at (2 ^ i) k ≡ 1 = ap (bit_at (2 ^ i)) same ∙ bit_at-pow_same i in
    grind (arith, nat_tests, digit_cases (2 ^ i) k))
    (λ apart. let at : bit_at (2 ^ i) k ≡ 0 = bit_at-pow_other i k apart in grind (arith, nat_tests, digit_cases (2 ^ i) k))
    (cases_eq k i))

-- the greatest number of width w, shifted down until n digits are left
pub is_one-ones : (w n k : ℕ) → n ≤ w → is_one ((2 ^ w - 1) / 2 ^ (w - n)) k ≡ nat_lt k n
is_one-ones w n k h =
    let left : w - (w - n) ≡ n = omega arith in
    let e : (2 ^ w - 1) / 2 ^ (w - n) ≡ 2 ^ n - 1 = ones_shr w (w - n) (omega arith) ∙ ap (λ m. 2 ^ m - 1) left in
    rw e (⊎_elim
    (λ below. let at : bit_at (2 ^ n - 1) k ≡ 1 = bit_at_ones n k below in grind (arith, nat_tests, digit_cases (2 ^ n - 1) k))
    (λ above. let at : bit_at (2 ^ n - 1) k ≡ 0 = bit_at_ones_above n k above in grind (arith, nat_tests, digit_cases (2 ^ n - 1) k))
    (cases_lt k n))

-- a number and its complement have one digit 1 between them at each place
pub is_one-complement : (w n i : ℕ) → n < 2 ^ w → i < w → is_one (2 ^ w - 1 - n) i ≡ not (is_one n i)
is_one-complement w n i fits below =
    let both : bit_and (2 ^ w - 1 - n) (2 ^ i) + bit_and n (2 ^ i) ≡ 2 ^ i = and-not w n (2 ^ i) fits (pow_below i w below) in
    let high : bit_and (2 ^ w - 1 - n) (2 ^ i) ≡ bit_at (2 ^ w - 1 - n) i * 2 ^ i = and_pow (2 ^ w - 1 - n) i in
    let low : bit_and n (2 ^ i) ≡ bit_at n i * 2 ^ i = and_pow n i in
    let some : 0 < 2 ^ i = pow_pos i in
    ⊎_elim
    (λ (p, p'). ⊎_elim
    (λ (q, q'). absurd (let high' = (rw p at high) in let low' = (rw q at low) in omega arith))
    (λ (q, q'). rw (p', q'))
    (digit_cases n i))
    (λ (p, p'). ⊎_elim
    (λ (q, q'). rw (p', q'))
    (λ (q, q'). absurd (let high' = (rw p at high) in let low' = (rw q at low) in omega arith))
    (digit_cases n i))
    (digit_cases (2 ^ w - 1 - n) i)

-- numbers below 2 ^ w with the same w digits are the same
pub same_from_digits : (w a b : ℕ) → a < 2 ^ w → b < 2 ^ w → SameDigits w a b → a ≡ b
same_from_digits w a b p q same =
    same_from_bits_below w a b p q (λ i below. let e = same i below in grind (arith, digit_cases a i, digit_cases b i))

is_one-suc : (n i : ℕ) → is_one n (suc i) ≡ is_one (n / 2) i
is_one-suc n i = let e = bit_at-suc n i in grind (arith, digit_cases n (suc i), digit_cases (n / 2) i)

is_one-lowest : (n : ℕ) → ((n % 2 ≡ 1) × (is_one n 0 ≡ true)) ⊎ ((n % 2 ≡ 0) × (is_one n 0 ≡ false))
is_one-lowest n = let e = bit_at_lowest n in grind (arith, digit_cases n 0)

-- std's count of zeros at the low end is the number of digits 0 below the lowest digit 1
pub IsLowZeros-count : (w n : ℕ) → IsLowZeros w n (count_trailing_zeros w n)
unfolding count_trailing_zeros
IsLowZeros-count zero n = record { within = omega arith; zeros = λ i h. absurd (omega arith); one = λ h. absurd (omega arith) }
IsLowZeros-count (suc w) n = ⊎_elim
    (λ (odd, one). rw odd (record { within = omega arith; zeros = λ i h. absurd (omega arith); one = λ _. one }))
    (λ (even, none). rw even (record {
      within = let h = (IsLowZeros-count w (n / 2)).within in omega arith;
      zeros = λ i. elim i as (λ j. j < suc (count_trailing_zeros w (n / 2)) → is_one n j ≡ false) [
        | zero ↦ λ _. none
        | suc j ↦ λ h. is_one-suc n j ∙ (IsLowZeros-count w (n / 2)).zeros j (omega arith)
      ];
      one = λ h. is_one-suc n _ ∙ (IsLowZeros-count w (n / 2)).one (omega arith);
    }))
    (is_one-lowest n)

IsHighZeros-zero : (w : ℕ) → IsHighZeros w 0 (count_leading_zeros w 0)
unfolding count_leading_zeros
IsHighZeros-zero zero = record { within = omega arith; zeros = λ i _ _. is_one-zero i; one = λ i h. absurd (omega arith) }
IsHighZeros-zero (suc w) = record { within = omega arith; zeros = λ i _ _. is_one-zero i; one = λ i h. absurd (omega arith) }

-- j is the place of the highest digit 1 of n
highest_one : (n j : ℕ) → 2 ^ j ≤ n → n < 2 ^ suc j → is_one n j ≡ true
unfolding is_one
highest_one n j low high =
    let some : 0 < 2 ^ j = pow_pos j in
    let twice : 2 ^ suc j ≡ 2 ^ j * 2 = pow-suc 2 j in
    let below : n / 2 ^ j < 2 = div_below n (2 ^ j) 2 some (omega arith) in
    let above : 1 ≤ n / 2 ^ j = le-div 1 n (2 ^ j) some (omega arith) in
    let q : n / 2 ^ j ≡ 1 = omega arith in
    rw q refl

-- and that at the high end the number of those above the highest
pub IsHighZeros-count : (w n : ℕ) → n < 2 ^ w → IsHighZeros w n (count_leading_zeros w n)
IsHighZeros-count w n fits = ⊎_elim
    (λ none. subst (λ m. IsHighZeros w m (count_leading_zeros w m)) (sym none) (IsHighZeros-zero w))
    (λ some.
    let top = leading_top w n some fits in
    let place : count_leading_zeros w n + suc top.0 ≡ w = top.1 in
    let low : 2 ^ top.0 ≤ n = top.2 in
    let high : n < 2 ^ suc top.0 = top.3 in
    record {
      within = omega arith;
      zeros = λ i above _. let z : bit_at n i ≡ 0 = bit_at_above n (suc top.0) i high (omega arith) in grind (arith, digit_cases n i);
      one = λ i at. let e : i ≡ top.0 = omega arith in rw e (highest_one n top.0 low high);
    })
    (eq-zero-or-pos n)

-- numbers below 2 ^ w are equal if their w digits are
pub equal_digits : (w a b : ℕ) → a < 2 ^ w → b < 2 ^ w → (IsTrue (nat_eq a b) ↔ SameDigits w a b)
equal_digits w a b p q = (
  λ same i _. let e : a ≡ b = grind (arith, nat_tests) in ap (λ n. is_one n i) e,
  λ same. let e : a ≡ b = same_from_digits w a b p q same in grind (arith, nat_tests),
)

-- the lowest k digits
pub is_one-mod : (n k i : ℕ) → i < k → is_one (n % 2 ^ k) i ≡ is_one n i
is_one-mod n k i h =
    let e : bit_at n i ≡ bit_at (n % 2 ^ k) i =
    ap (λ m. bit_at m i) (sym (shr_split n k)) ∙ bit_at_cat_low (n / 2 ^ k) k (n % 2 ^ k) i h in
    grind (arith, digit_cases n i, digit_cases (n % 2 ^ k) i)

-- the digit at k, if n has at most k + 1 digits
pub top_digit : (n k : ℕ) → n / 2 ^ k < 2 → ((n / 2 ^ k ≡ 1) × (is_one n k ≡ true)) ⊎ ((n / 2 ^ k ≡ 0) × (is_one n k ≡ false))
unfolding is_one
top_digit n k h = ⊎_elim
    (λ one. inl (one, rw one refl))
    (λ less. let none : n / 2 ^ k ≡ 0 = omega arith in inr (none, rw none refl))
    (cases_eq (n / 2 ^ k) 1)

-- ---- the lowest digit 1

-- a number with a digit 1 isn't 0
some_from_one : (n i : ℕ) → is_one n i ≡ true → 0 < n
some_from_one n i one = ⊎_elim
    (λ none. absurd (let z : is_one n i ≡ false = ap (λ m. is_one m i) none ∙ is_one-zero i in cc))
    (λ some. some)
    (eq-zero-or-pos n)

-- of the digits 1 of n, n - 1 has all but the lowest, at z
kept_less_one : (z n k : ℕ) → ((i : ℕ) → i < z → is_one n i ≡ false) → is_one n z ≡ true → is_one n k ≡ true
    → is_one (n - 1) k ≡ not (k == z)
kept_less_one zero n zero zeros one here = grind (arith, is_one-lowest n, is_one-lowest (n - 1))
kept_less_one zero n (suc k) zeros one here =
    let half : (n - 1) / 2 ≡ n / 2 = grind (arith, is_one-lowest n) in
    is_one-suc (n - 1) k ∙ ap (λ m. is_one m k) half ∙ sym (is_one-suc n k) ∙ here ∙ grind (arith, nat_tests)
kept_less_one (suc z) n zero zeros one here = absurd (let none = zeros 0 (omega arith) in cc)
kept_less_one (suc z) n (suc k) zeros one here =
    let one' : is_one (n / 2) z ≡ true = sym (is_one-suc n z) ∙ one in
    let some : 0 < n / 2 = some_from_one (n / 2) z one' in
    let none : is_one n 0 ≡ false = zeros 0 (omega arith) in
    let half : (n - 1) / 2 ≡ n / 2 - 1 = grind (arith, is_one-lowest n) in
    is_one-suc (n - 1) k ∙ ap (λ m. is_one m k) half
    ∙ kept_less_one z (n / 2) k (λ i h. sym (is_one-suc n i) ∙ zeros (suc i) (omega arith)) one' (sym (is_one-suc n k) ∙ here)
    ∙ grind (arith, nat_tests)

-- `n & n.wrapping_sub(1)` at the width w takes it out
pub without_lowest : (w n : ℕ) → n < 2 ^ w → IsWithoutLowest w n (bit_and n ((n + (2 ^ w - 1)) % 2 ^ w))
without_lowest w n fits z low k below =
    let less = (n + (2 ^ w - 1)) % 2 ^ w in
    is_one-bit_and n less k ∙ ⊎_elim
    (λ here.
    let some : 0 < n = some_from_one n k here in
    let within : z < w = ⊎_elim (λ before. absurd (let none = low.zeros k before in cc)) (λ after. omega arith) (cases_lt k z) in
    let one : is_one n z ≡ true = low.one within in
    let past : n + (2 ^ w - 1) ≡ 1 * 2 ^ w + (n - 1) = omega arith in
    let e : less ≡ n - 1 = ap (λ m. m % 2 ^ w) past ∙ mod_low 1 w (n - 1) (omega arith) in
    let kept : is_one (n - 1) k ≡ not (k == z) = kept_less_one z n k low.zeros one here in
    rw (here, e) kept)
    (λ gone. rw gone refl)
    (cases_Bool (is_one n k))

-- ---- what the counts of an integer return

-- `x ≡ x` says nothing: it shows `grind` the count to match
pub low_zeros : (w n : ℕ) → (count_trailing_zeros w n ≡ count_trailing_zeros w n) × IsLowZeros w n (count_trailing_zeros w n)
low_zeros w n = (refl, IsLowZeros-count w n)

-- the same for the count at the high end
pub high_zeros : (w n : ℕ) → n < 2 ^ w → (count_leading_zeros w n ≡ count_leading_zeros w n) × IsHighZeros w n (count_leading_zeros w n)
high_zeros w n fits = (refl, IsHighZeros-count w n fits)
