-- What a contract sees of an entity set, and what calls do to one.
use Rattle.std.specs.Prelude.{◌≡◌, ◌↔◌, ℕ, ◌≤◌, Bool, false, Result, IsOk, IsTrue, OnErr, refl}
use Rattle.std.specs.Ordering.{nat_cmp}
use Rattle.std.specs.FinSet.{FinSet, code}
use Rattle.std.specs.Coded.{Coded, code_by, coded×, coded_ℕ}
use Rattle.wic_base.specs.Sets.{HasMore}

-- the numbers of the keys, and how many numbers there is room for
pub record Entities : Type 0 where
  pub members : FinSet nat_cmp
  pub capacity : ℕ

-- a set is stored as the pair of its fields
abbrev pub entities_code : Coded Entities
entities_code =
    code_by (FinSet nat_cmp × ℕ) (coded× (code coded_ℕ) coded_ℕ) (λ s. (s.members, s.capacity))
    (λ p. record { members = p.0; capacity = p.1 }) (λ _. refl)

-- what putting keys in does to the room: `fits` says that each is below the capacity, `misses` that one isn't
pub record MayGrow {A E : Type 0} (fits misses : Type 0) (old new : Entities) (result : Result A E) : Type 0 where
  -- within the capacity the call isn't refused, and the capacity stays
  pub never_refused_within : fits → IsOk result
  pub capacity_kept_within : fits → new.capacity ≡ old.capacity
  -- a refusal comes only beyond the capacity, and leaves the set
  pub refused_only_beyond : OnErr result misses
  pub refusal_leaves : OnErr result (new ≡ old)
  pub capacity_never_falls : old.capacity ≤ new.capacity

-- what taking keys out does beside it: the result says whether there was one
pub record TakesOut (old new : Entities) (result : Bool) : Type 0 where
  pub dropped : IsTrue result ↔ HasMore new.members old.members
  -- if there was none, the members are as before, and else they aren't
  pub as_before : (result ≡ false) ↔ (new.members ≡ old.members)
  pub capacity_stays : new.capacity ≡ old.capacity
