-- What items come to that are results: all Ok, or up to the first Err.
use Rattle.std.specs.Prelude.{◌≡◌, ◌⊎◌, ◌+◌, ◌<◌, ℕ, List, [], ◌∷◌, ◌++◌, map, length, Result, Ok, Err, IsOk}
use Rattle.std.specs.List.{slice_index_or}

module _ {T E : Type 0} (items : List (Result T E)) where
  -- they are these values in order, each as an Ok; place by place too
  abbrev pub AreValues : List T → Type 0
  AreValues values = (items ≡ map Ok values) × (length items ≡ length values)
      × ((k : ℕ) (d : T) → k < length values → slice_index_or items k (Ok d) ≡ Ok (slice_index_or values k d))

  -- the last of them is the first that is an Err, and holds e; place by place too
  abbrev pub EndWithError : E → Type 0
  EndWithError e = ((values : List T) × (items ≡ map Ok values ++ Err e ∷ []))
      × (i : ℕ) × (length items ≡ i + 1) × ((d : Result T E) → slice_index_or items i d ≡ Err e)
      × ((k : ℕ) (d : Result T E) → k < i → IsOk (slice_index_or items k d))

  -- the same, or e is what `from` makes of an out of memory
  abbrev pub EndInError : (ℕ → E → Type 0) → E → Type 0
  EndInError from_gives e = EndWithError e ⊎ ((oom : ℕ) × from_gives oom e)
