-- The list of a set's members and the set.
use Rattle.std.specs.Prelude.{◌≡◌, ℕ, ◌<◌, true}
use Rattle.std.specs.FinSet.{contains}
use Rattle.wic_base.specs.Sets.{ListsMembers}
use Rattle.wic_scalar.specs.Scalar.{members_of, set_of}

-- the list of a number's members is that of its set, whose members are below the width
pub record IsListOfSet (width number : ℕ) : Type 0 where
  pub lists : ListsMembers (members_of width number) (set_of width number)
  pub within : (k : ℕ) → contains (set_of width number) k ≡ true → k < width

-- for every number and every width
abbrev pub ListsAndSetsAgree : Type 0
ListsAndSetsAgree = (width number : ℕ) → IsListOfSet width number
