-- How a `Slab` lays out its entries. No public clause cites this module.
use Rattle.std.specs.Prelude.{◌≡◌, ℕ, zero, suc, ◌+◌, ◌-◌, ◌≤◌, List, [], ◌∷◌, ◌++◌, length, Option, Some, None, slice_get, slice_index_or}
use Rattle.std.specs.List.{range_with_len}
use Rattle.std.specs.Ordering.{nat_cmp}
use Rattle.std.specs.FinMap.{FinMap, from_sorted, len}
use Rattle.wic_slab.specs.Order.{Order, max_capacity, IsOrder, BelongsTo}
use Rattle.wic_slab.specs.declared.slab.Entry.{Entry}
use Rattle.wic_slab.specs.declared.slab.Entry.TheVariants.{Vacant, Occupied}

-- the vacant ids of an order and then the fresh ones, as far as there are so many entries
abbrev pub vacant_places : Order → ℕ → List ℕ
vacant_places o count = o.vacant ++ range_with_len o.fresh (count - o.fresh)

module _ {T : Type 0} where
  -- the value of an entry, if it has one
  abbrev pub value_of : Entry T → Option T
  value_of (Occupied value) = Some value
  value_of (Vacant _) = None

  -- where the entry's link leads
  abbrev pub link_of : Entry T → ℕ
  link_of (Occupied _) = 0
  link_of (Vacant next) = next

  -- the values of the entries, each with its place; the first entry has this place
  abbrev pub pairs_from : ℕ → List (Entry T) → List (ℕ × T)
  pairs_from place [] = []
  pairs_from place (Occupied value ∷ rest) = (place, value) ∷ pairs_from (place + 1) rest
  pairs_from place (Vacant _ ∷ rest) = pairs_from (place + 1) rest

  -- the values of the entries by their places
  abbrev pub live_of : List (Entry T) → FinMap nat_cmp T
  live_of es = from_sorted (pairs_from 0 es)

  -- the first so many places of the vacant list that starts here
  abbrev pub chain : List (Entry T) → ℕ → ℕ → List ℕ
  chain es place zero = []
  chain es place (suc count) = place ∷ chain es (link_of (slice_index_or es place (Vacant 0))) count

  -- the order that is read from the fields: the vacant list's places below the first fresh one
  abbrev pub order_of : List (Entry T) → ℕ → ℕ → ℕ → Order
  order_of es next len fresh = record { vacant = chain es next (fresh - len); fresh = fresh }

  -- from this place on the vacant entries are these, each naming the next, and the last the number of entries
  abbrev pub Links : List (Entry T) → ℕ → List ℕ → Type 0
  Links es from [] = from ≡ length es
  Links es from (place ∷ places) = (from ≡ place) × (next : ℕ) × (slice_get es place ≡ Some (Vacant next)) × Links es next places

  -- the vacant list is the order's vacant ids, followed by the numbers from the first fresh id up to the number of
  -- entries
  pub record IsSound (es : List (Entry T)) (count next : ℕ) (o : Order) : Type 0 where
    pub ordered : IsOrder o
    pub belongs : BelongsTo o (live_of es)
    pub linked : Links es next (vacant_places o (length es))
    pub counted : count ≡ len (live_of es)
    pub total : count + length o.vacant ≡ o.fresh
    pub within : o.fresh ≤ length es
    pub at_most : length es ≤ max_capacity
