-- The members of a set as an ascending list.
use Rattle.std.specs.Prelude.{ℕ, ◌+◌, ◌-◌, ◌*◌, max, List, [], ◌∷◌}
use Rattle.std.specs.List.{filter, range_with_len}
use Rattle.std.specs.Ordering.{nat_cmp}
use Rattle.std.specs.FinSet.{FinSet, contains, items}

-- the members from `at` to below `end`, ascending
abbrev pub members_between : FinSet nat_cmp → ℕ → ℕ → List ℕ
members_between s at end = filter (contains s) (range_with_len at (end - at))

-- the members in word k, ascending
abbrev pub word_members : ℕ → FinSet nat_cmp → ℕ → List ℕ
word_members w s k = members_between s (k * w) (k * w + w)

-- the greatest of a list, or 0
abbrev pub greatest_of : List ℕ → ℕ
greatest_of [] = 0
greatest_of (x ∷ xs) = max x (greatest_of xs)

-- the members of a set, ascending: the numbers up to the greatest member that are members
unfoldable pub rising : FinSet nat_cmp → List ℕ
rising s = members_between s 0 (greatest_of (items s) + 1)
