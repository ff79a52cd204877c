-- The set that a number stands for.
use Rattle.std.specs.Prelude.{◌≡◌, ℕ, ◌<◌, ◌≤◌, nat_lt, true, List}
use Rattle.std.proofs.Common.{arith}
use Rattle.std.proofs.lemmas.Bool.Decides.{nat_tests}
use Rattle.std.specs.List.{filter, range_with_len}
use Rattle.std.specs.Ordering.{nat_cmp}
use Rattle.std.specs.FinSet.{FinSet, from_list}
use Rattle.wic_scalar.specs.Digits.{is_one}

-- the members of the set of a number n of width w: the places below w whose digit is 1, ascending
unfoldable pub members_of : ℕ → ℕ → List ℕ
members_of w n = filter (is_one n) (range_with_len 0 w)

-- the same as a set
abbrev pub set_of : ℕ → ℕ → FinSet nat_cmp
set_of w n = from_list (members_of w n)

-- w is a width: there is a digit, and there are at most 128
pub record IsWidth (w : ℕ) : Type 0 where
  pub positive : 0 < w
  pub within : w ≤ 128

pub IsWidth-check : (w : ℕ) → nat_lt 0 w ≡ true → nat_lt w 129 ≡ true → IsWidth w
IsWidth-check w p q = record { positive = grind (arith, nat_tests); within = grind (arith, nat_tests) }
