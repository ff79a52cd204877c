-- What a contract sees of a compound set.
use Rattle.std.specs.Prelude.{ℕ, ◌*◌, refl}
use Rattle.std.specs.Ordering.{nat_cmp}
use Rattle.std.specs.FinSet.{FinSet, code}
use Rattle.std.specs.Coded.{Coded, code_by, coded×, coded_ℕ}
use Rattle.wic_bitset.specs.declared.set.TheConstants.{MAX_CAPACITY, MAX_NUMBER}

-- the members, and how many words the set has
pub record Compound : Type 0 where
  pub members : FinSet nat_cmp
  pub words : ℕ

-- a set is stored as the pair of its fields
abbrev pub compound_code : Coded Compound
compound_code =
    code_by (FinSet nat_cmp × ℕ) (coded× (code coded_ℕ) coded_ℕ) (λ s. (s.members, s.words))
    (λ p. record { members = p.0; words = p.1 }) (λ _. refl)

-- the capacity for words of so many places: the numbers below it need no further word
abbrev pub capacity_of : ℕ → Compound → ℕ
capacity_of width set = set.words * width

-- the greatest number that a set can have
abbrev pub max_number : ℕ
max_number = MAX_NUMBER

-- as many numbers as a set can have
abbrev pub max_capacity : ℕ
max_capacity = MAX_CAPACITY
