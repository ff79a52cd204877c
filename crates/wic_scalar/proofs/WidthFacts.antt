-- Digits at the widths of Rust's unsigned integers, as rulesets for `using`.
use Rattle.std.proofs.Common.{◌≡◌, ℕ, ◌+◌, ◌-◌, ◌*◌, ◌^◌, ◌/◌, ◌%◌, ◌<◌, ◌≤◌, not, ◌↔◌, IsTrue, length, bit_and}
use Rattle.std.specs.Prelude.{◌==◌, nat_lt, nat_eq}
use Rattle.std.proofs.lemmas.Nat.{leading_le, trailing_le, ones-le}
use lib.Count.{ones, count_leading_zeros, count_trailing_zeros}
use Rattle.wic_scalar.specs.Digits.{is_one, SameDigits, IsHighZeros, IsWithoutLowest}
use Rattle.wic_scalar.specs.Scalar.{members_of}
use Rattle.wic_scalar.proofs.MemberFacts.{count-members_of}
use Rattle.wic_scalar.proofs.DigitFacts.{low_zeros, high_zeros, is_one-zero, is_one-bit_and, is_one-bit_or, is_one-pow, is_one-ones}
use Rattle.wic_scalar.proofs.DigitFacts.{is_one-complement, equal_digits, IsLowZeros-count, IsHighZeros-count, without_lowest}

-- what `1 << i`, `MAX >> (w - n)`, `!n`, `a == b`, `n & n.wrapping_sub(1)` and the counts give at w digits. `x ≡ x` says nothing: it
-- shows `grind` the count to match
pub record Laws (w : ℕ) : Type 0 where
  -- `1 << i` has the digit i alone
  pub bit : (i k : ℕ) → i < w → is_one (1 * 2 ^ i % 2 ^ w) k ≡ (k == i)
  -- `MAX >> (w - n)` has the digits below n
  pub below : (n k : ℕ) → n ≤ w → is_one ((2 ^ w - 1) / 2 ^ (w - n)) k ≡ nat_lt k n
  -- `!n` has each digit flipped
  pub complement : (n i : ℕ) → n < 2 ^ w → i < w → is_one (2 ^ w - 1 - n) i ≡ not (is_one n i)
  -- `a == b` says whether all digits are the same
  pub equal : (a b : ℕ) → a < 2 ^ w → b < 2 ^ w → (IsTrue (nat_eq a b) ↔ SameDigits w a b)
  -- `n & n.wrapping_sub(1)` has the digits of n but the lowest 1
  pub lowest : (n : ℕ) → n < 2 ^ w → IsWithoutLowest w n (bit_and n ((n + (2 ^ w - 1)) % 2 ^ w))
  -- `leading_zeros` counts the zeros at the high end
  pub high : (n : ℕ) → n < 2 ^ w → (count_leading_zeros w n ≡ count_leading_zeros w n) × IsHighZeros w n (count_leading_zeros w n)
  -- `count_ones` counts the digits 1
  pub count : (n : ℕ) → n < 2 ^ w → ones n ≡ length (members_of w n)

laws : (w : ℕ) → Laws w
laws w = record {
  bit = is_one-pow w;
  below = is_one-ones w;
  complement = is_one-complement w;
  equal = equal_digits w;
  lowest = without_lowest w;
  high =
      high_zeros w;
  count = count-members_of w;
}

-- those that hold at any width
pub ruleset any_width = (is_one-zero, is_one-bit_and, is_one-bit_or, low_zeros, leading_le, trailing_le, ones-le)

-- the laws at 8 digits
pub at_8 : Laws 8
at_8 = laws 8

-- all that `grind` reads at 8 digits
pub ruleset laws_8 = (any_width, at_8)

-- the laws at 16 digits
pub at_16 : Laws 16
at_16 = laws 16

-- all that `grind` reads at 16 digits
pub ruleset laws_16 = (any_width, at_16)

-- the laws at 32 digits
pub at_32 : Laws 32
at_32 = laws 32

-- all that `grind` reads at 32 digits
pub ruleset laws_32 = (any_width, at_32)

-- the laws at 64 digits
pub at_64 : Laws 64
at_64 = laws 64

-- all that `grind` reads at 64 digits
pub ruleset laws_64 = (any_width, at_64)

-- the laws at 128 digits
pub at_128 : Laws 128
at_128 = laws 128

-- all that `grind` reads at 128 digits
pub ruleset laws_128 = (any_width, at_128)
