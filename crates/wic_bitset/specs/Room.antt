-- What a call does that makes room in a set, or joins another set to it.
use Rattle.std.specs.Prelude.{◌≡◌, ℕ, ◌<◌, ◌≤◌, Result, IsOk, OnOk, OnErr}
use Rattle.std.specs.Ordering.{nat_cmp}
use Rattle.std.specs.FinSet.{FinSet}

-- these two functions give the members of a set and its capacity
module _ {S A E : Type 0} (members : S → FinSet nat_cmp) (capacity : S → ℕ) where
  -- room is made for the numbers below n
  pub record MakesRoomFor (n : ℕ) (old new : S) (result : Result A E) : Type 0 where
    pub members_stay : members new ≡ members old
    pub room : OnOk result (n ≤ capacity new)
    -- if there was that room already, the call isn't refused, and the set stays as a whole
    pub never_refused_within : n ≤ capacity old → IsOk result
    pub unchanged_within : n ≤ capacity old → new ≡ old
    -- a refusal comes only if the room was missing, and leaves the set
    pub refused_only_beyond : OnErr result (capacity old < n)
    pub refusal_leaves : OnErr result (new ≡ old)
    pub capacity_never_falls : capacity old ≤ capacity new
