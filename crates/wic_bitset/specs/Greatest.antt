-- The greatest member of a set.
use Rattle.std.specs.Prelude.{◌≡◌, ◌≤◌, ℕ, true, Option, MatchOption}
use Rattle.std.specs.Ordering.{nat_cmp}
use Rattle.std.specs.FinSet.{FinSet, contains, empty}
use Rattle.wic_base.specs.Sets.{IsGreatest}

-- r is the greatest member, or there is none
abbrev pub IsMax : FinSet nat_cmp → Option ℕ → Type 0
IsMax s r = MatchOption r (s ≡ empty) (IsGreatest s)

-- no member is above i
abbrev pub IsNoneAbove : FinSet nat_cmp → ℕ → Type 0
IsNoneAbove s i = (j : ℕ) → contains s j ≡ true → j ≤ i
