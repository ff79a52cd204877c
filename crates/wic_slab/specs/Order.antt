-- The order in which a slab hands out its ids. Two equal orders hand out the same ids forever.
use Rattle.std.specs.Prelude.{◌≢◌, ◌≡◌, ℕ, ◌+◌, ◌<◌, ◌≤◌, ◌==◌, Bool, not, ◌&&◌, nat_eq, nat_lt, if◌then◌else◌, List, [], ◌∷◌}
use Rattle.std.specs.Prelude.{slice_index_or}
use Rattle.std.specs.List.{AllByRecursion, IsDistinct, list_any}
use Rattle.std.specs.Ordering.{nat_cmp}
use Rattle.std.specs.FinMap.{FinMap, contains_key}
use Rattle.wic_slab.specs.declared.slab.TheConstants.{MAX_CAPACITY}

-- the vacant ids, the next one first, and the first fresh id: it and those above it are vacant too, in their order
pub record Order : Type 0 where
  pub vacant : List ℕ
  pub fresh : ℕ

-- the greatest number of live ids
abbrev pub max_capacity : ℕ
max_capacity = MAX_CAPACITY

-- ids start at 0
abbrev pub from_zero : Order
from_zero = record { vacant = []; fresh = 0 }

-- the id that the next allocation returns
abbrev pub next_id : Order → ℕ
next_id o = slice_index_or o.vacant 0 o.fresh

abbrev pub take_from : List ℕ → ℕ → Order
take_from [] fresh = record { vacant = []; fresh = fresh + 1 }
take_from (id ∷ vacant) fresh = record { vacant = vacant; fresh = fresh }

-- the order once its next id is taken
abbrev pub take_next : Order → Order
take_next o = take_from o.vacant o.fresh

abbrev pub give_to : List ℕ → ℕ → ℕ → Order
give_to [] fresh id =
    if id + 1 == fresh then record { vacant = []; fresh = id } else record { vacant = id ∷ []; fresh = fresh }
give_to (next ∷ vacant) fresh id = record { vacant = id ∷ next ∷ vacant; fresh = fresh }

-- the order once this id is freed: it is the next one. The last id below the fresh ones is fresh again if no id
-- below it is vacant
abbrev pub give_back : Order → ℕ → Order
give_back o id = give_to o.vacant o.fresh id

-- the last of a list, or this number if the list is empty
abbrev pub last_or : ℕ → List ℕ → ℕ
last_or otherwise [] = otherwise
last_or otherwise (id ∷ ids) = last_or id ids

-- whether the id is one of the vacant ones below the fresh ones
abbrev pub is_vacant : Order → ℕ → Bool
is_vacant o id = list_any (nat_eq id) o.vacant

-- the vacant ids are different numbers below the first fresh id, and the last of them isn't next to it
pub record IsOrder (o : Order) : Type 0 where
  pub distinct : IsDistinct nat_eq o.vacant
  pub below : AllByRecursion (λ id. id < o.fresh) o.vacant
  pub last_apart : last_or o.fresh o.vacant + 1 ≢ o.fresh
  pub at_most : o.fresh ≤ max_capacity

-- the live ids are exactly the numbers below the first fresh id that aren't vacant
abbrev pub BelongsTo : {T : Type 0} → Order → FinMap nat_cmp T → Type 0
BelongsTo o live = (id : ℕ) → contains_key live id ≡ (nat_lt id o.fresh && not (is_vacant o id))
