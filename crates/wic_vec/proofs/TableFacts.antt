-- The table has the two digits of each number below 100.
use Rattle.std.proofs.Common.{◌≡◌, ℕ, zero, suc, ◌+◌, ◌-◌, ◌*◌, ◌/◌, ◌%◌, ◌<◌, Bool, true, ◌&&◌, T, eqb, get_or, arith}
use Rattle.std.proofs.Common.{eqb→eq, eq-zero-or-pos, inl, inr}
use lib.Ieee.Fits.{and_l, and_r}
use Rattle.wic_vec.specs.declared.string.digits.TheConstants.{PAIRS}

-- at this place of the table stands this digit
abbrev stands : ℕ → ℕ → Bool
stands place digit = eqb (get_or PAIRS place 0) (48 + digit)

-- so it is for all numbers below this one
abbrev stand_below : ℕ → Bool
stand_below zero = true
stand_below (suc n) = stand_below n && (stands (n * 2) (n / 10) && stands (n * 2 + 1) (n % 10))

at_each : (bound n : ℕ) → T (stand_below bound) → n < bound
    → (get_or PAIRS (n * 2) 0 ≡ 48 + n / 10) × (get_or PAIRS (n * 2 + 1) 0 ≡ 48 + n % 10)
at_each zero n all below = absurd (omega arith)
at_each (suc bound) n all below =
    elim (eq-zero-or-pos (bound - n)) [
      | inl none ↦
          let last : n ≡ bound = omega arith in
          let both = and_r (stand_below bound) _ all in
          rw last (eqb→eq _ _ (and_l _ _ both), eqb→eq _ _ (and_r _ _ both))
      | inr some ↦ at_each bound n (and_l (stand_below bound) _ all) (omega arith)
    ]

pub pair_at : (n : ℕ) → n < 100 → (get_or PAIRS (n * 2) 0 ≡ 48 + n / 10) × (get_or PAIRS (n * 2 + 1) 0 ≡ 48 + n % 10)
pair_at n below = at_each 100 n tt below
