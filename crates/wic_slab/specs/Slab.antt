-- What a contract sees of a `Slab`.
use Rattle.std.specs.Prelude.{◌≡◌, ℕ, ◌+◌, ◌≤◌, List, length, false, Some, Result, IsTrue, refl}
use Rattle.std.specs.Ordering.{nat_cmp}
use Rattle.std.specs.FinMap.{FinMap, code, get, contains_key, insert, remove, len}
use Rattle.std.specs.Coded.{Coded, code_by, coded×, coded_ℕ, coded_list}
use Rattle.wic_vec.specs.Room.{MakesRoom}
use Rattle.wic_slab.specs.Order.{Order, max_capacity, next_id, take_next, give_back, IsOrder, BelongsTo}

-- the live ids with their values, the order in which further ids come, and how many values fit without an allocation
pub record Slab (T : Type 0) : Type 0 where
  pub live : FinMap nat_cmp T
  pub order : Order
  pub capacity : ℕ

-- a slab is stored as the tuple of its fields
abbrev pub slab_code : {T : Type 0} → Coded T → Coded (Slab T)
slab_code {T} value =
    code_by
    (FinMap nat_cmp T × (List ℕ × (ℕ × ℕ)))
    (coded× (code coded_ℕ value) (coded× (coded_list coded_ℕ) (coded× coded_ℕ coded_ℕ)))
    (λ s. (s.live, (s.order.vacant, (s.order.fresh, s.capacity))))
    (λ p. record { live = p.0; order = record { vacant = p.1.0; fresh = p.1.1.0 }; capacity = p.1.1.1 })
    (λ _. refl)

module _ {T : Type 0} where
  -- a value is held under the id
  abbrev pub IsLive : Slab T → ℕ → Type 0
  IsLive s id = IsTrue (contains_key s.live id)

  -- so many more values fit without an allocation
  abbrev pub HasRoomFor : Slab T → ℕ → Type 0
  HasRoomFor s more = len s.live + more ≤ s.capacity

  -- room is made for so many more values than are live
  abbrev pub Reserves : {A E : Type 0} → Slab T → Slab T → ℕ → Result A E → Type 0
  Reserves old new more result = MakesRoom (λ s. len s.live) (λ s. s.capacity) old new more result

  -- the slab with this value under the id, if there was one
  abbrev pub with_value : Slab T → ℕ → T → Slab T
  with_value s id value = record s { live = insert s.live id value }

  -- what is true of every slab
  pub record IsSlab (s : Slab T) : Type 0 where
    -- its order is one, and belongs to its live ids
    pub ordered : IsOrder s.order
    pub belongs : BelongsTo s.order s.live
    -- live and vacant ids are as many as the first fresh one: so below the limit the next id is below it too
    pub total : len s.live + length s.order.vacant ≡ s.order.fresh
    -- the live ids fit, and the capacity has its limit
    pub fits : len s.live ≤ s.capacity
    pub at_most : s.capacity ≤ max_capacity

  -- what holding this value under this id makes of a slab
  pub record Holds (old new : Slab T) (value : T) (id : ℕ) : Type 0 where
    -- the id is the next one of the order, which goes on behind it
    pub id_is : id ≡ next_id old.order
    pub order : new.order ≡ take_next old.order
    -- it was vacant, and is live with the value now; the other ids are as before
    pub was_vacant : contains_key old.live id ≡ false
    pub live : new.live ≡ insert old.live (next_id old.order) value
    pub now_live : IsLive new id
    pub found : get new.live id ≡ Some value
    pub one_more : len new.live ≡ len old.live + 1
    -- the order belonged to the live ids, and does again
    pub was_ordered : IsOrder old.order
    pub belonged : BelongsTo old.order old.live
    pub is_slab : IsSlab new

  -- what freeing this id makes of a slab
  pub record GivesBack (old new : Slab T) (id : ℕ) : Type 0 where
    -- the order has the id at its front
    pub order : new.order ≡ give_back old.order id
    pub comes_next : next_id new.order ≡ id
    -- it is no longer live, and the other ids are as before
    pub live : new.live ≡ remove old.live id
    pub one_less : len new.live + 1 ≡ len old.live
    pub capacity_stays : new.capacity ≡ old.capacity
    -- the order belonged to the live ids, and does again
    pub was_ordered : IsOrder old.order
    pub belonged : BelongsTo old.order old.live
    pub is_slab : IsSlab new
