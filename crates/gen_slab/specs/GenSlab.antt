-- What a contract sees of a generational slab.
use Rattle.std.specs.Prelude.{◌≡◌, ◌≢◌, ◌⊎◌, ℕ, ◌+◌, ◌<◌, ◌≤◌, ◌==◌, if◌then◌else◌, List, Option, Some, None, IsSome, map, min, refl}
use Rattle.std.specs.Ordering.{nat_cmp}
use Rattle.std.specs.Option.{option_and_then}
use Rattle.std.specs.FinMap.{FinMap, code, get, insert, remove, len}
use Rattle.std.specs.Coded.{Coded, code_by, coded×, coded_ℕ, coded_list}
use Rattle.wic_slab.specs.Order.{Order, IsOrder, BelongsTo, next_id, take_next, give_back}
use Rattle.gen_slab.specs.Handle.{Handle}
use Rattle.gen_slab.specs.declared.slab.Held.{Held}
use Rattle.gen_slab.specs.declared.slab.TheConstants.{LAST_COUNT}

-- the values under their ids, each with the generation of its handle; the order of further ids; and how many values were
-- taken out, which is the generation of the next handle
pub record GenState (T : Type 0) : Type 0 where
  pub live : FinMap nat_cmp (Held T)
  pub order : Order
  pub count : ℕ

-- the state, and how many values fit without an allocation
pub record GenSlab (T : Type 0) : Type 0 where
  pub state : GenState T
  pub capacity : ℕ

-- what is held is stored as the pair of its fields
abbrev pub held_code : {T : Type 0} → Coded T → Coded (Held T)
held_code {T} value =
    code_by (ℕ × T) (coded× coded_ℕ value) (λ h. (h.generation, h.value)) (λ p. record { generation = p.0; value = p.1 }) (λ _. refl)

-- a slab is stored as the tuple of its fields
abbrev pub gen_slab_code : {T : Type 0} → Coded T → Coded (GenSlab T)
gen_slab_code {T} value =
    code_by
    (FinMap nat_cmp (Held T) × (List ℕ × (ℕ × (ℕ × ℕ))))
    (coded× (code coded_ℕ (held_code value)) (coded× (coded_list coded_ℕ) (coded× coded_ℕ (coded× coded_ℕ coded_ℕ))))
    (λ s. (s.state.live, (s.state.order.vacant, (s.state.order.fresh, (s.state.count, s.capacity)))))
    (λ p. record {
      state = record { live = p.0; order = record { vacant = p.1.0; fresh = p.1.1.0 }; count = p.1.1.1.0 };
      capacity = p.1.1.1.1;
    })
    (λ _. refl)

-- the last count: at it nothing is handed out any more
abbrev pub last_count : ℕ
last_count = LAST_COUNT

module _ {T : Type 0} where
  -- the value that is held, if it was handed out in this generation
  abbrev pub value_in : ℕ → Held T → Option T
  value_in generation held = if held.generation == generation then Some held.value else None

  -- the value of a handle, if it is live
  abbrev pub value_of : GenState T → Handle → Option T
  value_of s handle = option_and_then (value_in handle.generation) (get s.live handle.id)

  -- the handle of the next value
  abbrev pub next_handle : GenState T → Handle
  next_handle s = record { id = next_id s.order; generation = s.count }

  -- the state after a value was taken in
  abbrev pub with_next : GenState T → T → GenState T
  with_next s value = record s {
    live = insert s.live (next_id s.order) (record { generation = s.count; value = value });
    order = take_next s.order;
  }

  -- the state after the value of a live handle was taken out: the count rises, but not beyond the last
  abbrev pub without : GenState T → Handle → GenState T
  without s handle = record {
    live = remove s.live handle.id;
    order = give_back s.order handle.id;
    count = min (s.count + 1) last_count;
  }

  -- the state with another value under a live handle
  abbrev pub rewritten : GenState T → Handle → T → GenState T
  rewritten s handle value =
      record s { live = insert s.live handle.id (record { generation = handle.generation; value = value }) }

  -- the live handles with their values, in ascending order of the ids
  abbrev pub pairs_of : List (ℕ × Held T) → List (Handle × T)
  pairs_of held = map (λ pair. (record { id = pair.0; generation = pair.1.generation }, pair.1.value)) held

  -- no live generation is above the count, which isn't above the last
  pub record IsCounted (s : GenState T) : Type 0 where
    pub counted : (id : ℕ) (held : Held T) → get s.live id ≡ Some held → held.generation ≤ s.count
    pub at_most : s.count ≤ last_count

  -- the invariant of a state: its order is one, and the order of its live ids, and its generations are within the count
  pub record IsGenState (s : GenState T) : Type 0 where
    pub ordered : IsOrder s.order
    pub belongs : BelongsTo s.order s.live
    pub counts : IsCounted s

  -- the handle is dead for good: nothing is found under it, and no later handle has its generation
  pub record IsGone (s : GenState T) (handle : Handle) : Type 0 where
    -- nothing is found under the handle
    pub dead : value_of s handle ≡ None
    -- its generation is below the count, or no handle is given any more
    pub past : (handle.generation < s.count) ⊎ (s.count ≡ last_count)

  -- each live handle keeps its value
  abbrev pub KeepsLive : GenState T → GenState T → Type 0
  KeepsLive old new = (handle : Handle) → IsSome (value_of old handle) → value_of new handle ≡ value_of old handle

  -- each handle but this one finds what it found
  abbrev pub KeepsOthers : Handle → GenState T → GenState T → Type 0
  KeepsOthers handle old new = (other : Handle) → other ≢ handle → value_of new other ≡ value_of old other

  -- what is gone stays gone
  abbrev pub KeepsGone : GenState T → GenState T → Type 0
  KeepsGone old new = (handle : Handle) → IsGone old handle → IsGone new handle

  -- the handle differs from each live one
  abbrev pub IsNew : GenState T → Handle → Type 0
  IsNew s handle = (other : Handle) → IsSome (value_of s other) → handle ≢ other

  -- what holding a value under a handle makes of a state
  pub record Holds (old new : GenState T) (value : T) (handle : Handle) : Type 0 where
    -- the handle is the next one, and differs from each live one
    pub handle_is : handle ≡ next_handle old
    pub is_new : IsNew old handle
    -- the value is held under it, and is found by it
    pub state : new ≡ with_next old value
    pub found : value_of new handle ≡ Some value
    pub one_more : len new.live ≡ len old.live + 1

  -- what taking out the value of a handle makes of a state
  pub record TakesOut (old new : GenState T) (handle : Handle) : Type 0 where
    pub state : new ≡ without old handle
    pub one_less : len new.live + 1 ≡ len old.live
    -- the handle is gone for good
    pub gone : IsGone new handle

  -- what any write under a live handle keeps: the number of values, what the other handles find, what is gone, and the
  -- invariant
  pub record WritesOnly (s : GenState T) (handle : Handle) : Type 0 where
    pub same_len : (value : T) → len (rewritten s handle value).live ≡ len s.live
    pub keeps : (value : T) → KeepsOthers handle s (rewritten s handle value)
    pub keeps_gone : (value : T) → KeepsGone s (rewritten s handle value)
    pub sound : (value : T) → IsGenState (rewritten s handle value)
