-- The laws of the hand-out order, over live ids with their values.
use Rattle.std.specs.Prelude.{◌≡◌, ◌<◌, ℕ, true, Some}
use Rattle.std.specs.Ordering.{nat_cmp}
use Rattle.std.specs.FinMap.{FinMap, get, contains_key, insert, remove}
use Rattle.wic_slab.specs.Order.{Order, max_capacity, next_id, take_next, give_back, IsOrder, BelongsTo}

-- a live id is freed, and its value is allocated again: the result is that id, and map and order are as before both
abbrev pub AllocationUndoesGivingBack : Type 0 → Type 0
AllocationUndoesGivingBack T =
    (order : Order) (live : FinMap nat_cmp T) (id : ℕ) (value : T)
    → get live id ≡ Some value
    → let given_back = give_back order id in
    (next_id given_back ≡ id)
    × (insert (remove live id) (next_id given_back) value ≡ live)
    × (take_next given_back ≡ order)

-- a value is allocated, and its id is freed: map and order are as before both
abbrev pub GivingBackUndoesAllocation : Type 0 → Type 0
GivingBackUndoesAllocation T =
    (order : Order) (live : FinMap nat_cmp T) (value : T)
    → IsOrder order → BelongsTo order live
    → let id = next_id order in
    (remove (insert live id value) id ≡ live)
    × (give_back (take_next order) id ≡ order)

-- an order that belongs to the live ids does so again once its next id is taken, below the limit, and once a live id is
-- freed
abbrev pub StaysAnOrder : Type 0 → Type 0
StaysAnOrder T =
    (order : Order) (live : FinMap nat_cmp T)
    → IsOrder order → BelongsTo order live
    → ((value : T) → next_id order < max_capacity
    → IsOrder (take_next order) × BelongsTo (take_next order) (insert live (next_id order) value))
    × ((id : ℕ) → contains_key live id ≡ true
    → IsOrder (give_back order id) × BelongsTo (give_back order id) (remove live id))
