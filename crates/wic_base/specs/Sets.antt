-- What is said of finite sets of numbers.
use Rattle.std.specs.Prelude.{◌≡◌, ◌↔◌, ℕ, ◌<◌, ◌≤◌, true, false, List, length, Contains}
use Rattle.std.specs.List.Sorted.{IsStrictlyIncreasing}
use Rattle.std.specs.Ordering.{nat_cmp}
use Rattle.std.specs.FinSet.{FinSet, contains, len}

-- x is the least member
pub record IsLeast (s : FinSet nat_cmp) (x : ℕ) : Type 0 where
  pub member : contains s x ≡ true
  pub least : (i : ℕ) → contains s i ≡ true → x ≤ i

-- x is the greatest member
pub record IsGreatest (s : FinSet nat_cmp) (x : ℕ) : Type 0 where
  pub member : contains s x ≡ true
  pub greatest : (i : ℕ) → contains s i ≡ true → i ≤ x

-- each member is below n
abbrev pub AllBelow : ℕ → FinSet nat_cmp → Type 0
AllBelow n s = (i : ℕ) → contains s i ≡ true → i < n

-- there is a member that isn't below n
abbrev pub HasFrom : ℕ → FinSet nat_cmp → Type 0
HasFrom n s = (i : ℕ) × ((contains s i ≡ true) × (n ≤ i))

-- t has a member that s lacks
abbrev pub HasMore : FinSet nat_cmp → FinSet nat_cmp → Type 0
HasMore s t = (i : ℕ) × ((contains s i ≡ false) × (contains t i ≡ true))

-- the list has each member of the set once, ascending, and nothing else
pub record ListsMembers (xs : List ℕ) (s : FinSet nat_cmp) : Type 0 where
  pub ascending : IsStrictlyIncreasing xs
  pub each : (k : ℕ) → (Contains xs k ↔ (contains s k ≡ true))
  pub as_many : length xs ≡ len s
