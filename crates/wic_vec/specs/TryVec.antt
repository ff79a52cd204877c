-- What a contract sees of a `TryVec`.
use Rattle.std.specs.Prelude.{ℕ, ◌+◌, ◌≤◌, List, length, slice_set, Result, refl}
use Rattle.std.specs.List.{refill}
use Rattle.std.specs.Coded.{Coded, code_by, coded×, coded_ℕ, coded_list}
use Rattle.wic_vec.specs.Room.{MakesRoom, PutsAtEnd}

-- the elements in order, and how many fit without an allocation
pub record TryVec (T : Type 0) : Type 0 where
  pub items : List T
  pub capacity : ℕ

-- a vector is stored as the pair of its fields
abbrev pub try_vec_code : {T : Type 0} → Coded T → Coded (TryVec T)
try_vec_code {T} code =
    code_by (List T × ℕ) (coded× (coded_list code) coded_ℕ) (λ v. (v.items, v.capacity))
    (λ p. record { items = p.0; capacity = p.1 }) (λ _. refl)

module _ {T : Type 0} where
  -- so many more elements fit without an allocation
  abbrev pub HasRoomFor : TryVec T → ℕ → Type 0
  HasRoomFor v more = length v.items + more ≤ v.capacity

  -- room is made for so many more elements
  abbrev pub Reserves : {A E : Type 0} → TryVec T → TryVec T → ℕ → Result A E → Type 0
  Reserves old new more result = MakesRoom (λ v. length v.items) (λ v. v.capacity) old new more result

  -- these elements are put at the end
  abbrev pub Appends : {A E : Type 0} → TryVec T → TryVec T → List T → Result A E → Type 0
  Appends old new more result = PutsAtEnd (λ v. v.items) (λ v. v.capacity) old new more result

  -- v with x at place i
  abbrev pub with_item : TryVec T → ℕ → T → TryVec T
  with_item v i x = record v { items = slice_set v.items i x }

  -- v with xs written over its elements from the first on: their number stays
  abbrev pub with_items : TryVec T → List T → TryVec T
  with_items v xs = record v { items = refill (length v.items) v.items xs }
