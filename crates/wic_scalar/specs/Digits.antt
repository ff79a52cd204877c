-- A number by its digits in base two. Digit 0 is the lowest.
use Rattle.std.specs.Prelude.{◌≡◌, ◌==◌, ℕ, ◌+◌, ◌^◌, ◌/◌, ◌%◌, ◌<◌, ◌≤◌, Bool, true, false, not, ◌&&◌}

-- whether digit i of n is 1: n divided by 2 ^ i, rounded down, is odd
unfoldable pub is_one : ℕ → ℕ → Bool
is_one n i = (n / 2 ^ i % 2) == 1

-- below the width w, m and n have the same digits
abbrev pub SameDigits : ℕ → ℕ → ℕ → Type 0
SameDigits w m n = (i : ℕ) → i < w → is_one m i ≡ is_one n i

-- of the w digits of n, exactly the lowest z stand below the lowest digit 1
pub record IsLowZeros (w n z : ℕ) : Type 0 where
  pub within : z ≤ w
  pub zeros : (i : ℕ) → i < z → is_one n i ≡ false
  pub one : z < w → is_one n z ≡ true

-- of the w digits of n, exactly the highest z stand above the highest digit 1
pub record IsHighZeros (w n z : ℕ) : Type 0 where
  pub within : z ≤ w
  pub zeros : (i : ℕ) → w ≤ i + z → i < w → is_one n i ≡ false
  pub one : (i : ℕ) → i + z + 1 ≡ w → is_one n i ≡ true

-- of the w digits of n, m has all but the lowest 1, whose place is z; if n has none, m has none
abbrev pub IsWithoutLowest : ℕ → ℕ → ℕ → Type 0
IsWithoutLowest w n m = (z : ℕ) → IsLowZeros w n z → (k : ℕ) → k < w → is_one m k ≡ (is_one n k && not (k == z))
