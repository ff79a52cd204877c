-- What the plain machine holds.
use Rattle.std.specs.Prelude.{◌≡◌, ℕ, ◌≤◌, true, List, []}
use Rattle.std.specs.Ordering.{nat_cmp}
use Rattle.std.specs.FinMap.{FinMap, empty}
use Rattle.std.specs.FinSet.{FinSet, contains, empty as no_members}
use Rattle.wic_slab.specs.Order.{Order, from_zero, IsOrder, BelongsTo}
use Rattle.wic_bitset.specs.Compound.{max_number}

-- the contents: the values of the list in order, the numbers of the set, the values of the live ids, and the order of
-- further ids
pub record Contents (T : Type 0) : Type 0 where
  pub list : List T
  pub set : FinSet nat_cmp
  pub live : FinMap nat_cmp T
  pub order : Order

-- the contents, and the room: the greatest reservation that was accepted, 0 at first
pub record State (T : Type 0) : Type 0 where
  pub contents : Contents T
  pub room : ℕ

-- nothing is held, and ids start at 0
abbrev pub no_contents : {T : Type 0} → Contents T
no_contents = record { list = []; set = no_members; live = empty; order = from_zero }

-- nothing is held, and the room is 0
abbrev pub empty_state : {T : Type 0} → State T
empty_state = record { contents = no_contents; room = 0 }

-- the greatest number that the set can have
abbrev pub max_member : ℕ
max_member = max_number

-- the order is one, and the order of these live ids; the set has no greater number than it can have
pub record IsSound {T : Type 0} (contents : Contents T) : Type 0 where
  pub ordered : IsOrder contents.order
  pub belongs : BelongsTo contents.order contents.live
  pub members : (number : ℕ) → contains contents.set number ≡ true → number ≤ max_member
