-- What a vector is once copies of a value were put behind its elements.
use Rattle.std.specs.Prelude.{◌≡◌, ℕ, List, [], ◌∷◌, ◌++◌, length}
use Rattle.std.specs.List.{All}

module _ {T : Type 0} (same : T → T → Type 0) where
  -- new is old, and copies of value behind it
  abbrev pub AppendsCopies : T → List T → List T → Type 0
  AppendsCopies value old new = (copies : List T) × (new ≡ old ++ copies) × All (same value) copies

  -- new is old, copies of value behind it, and value itself last: it has so many elements
  abbrev pub FillsUp : T → ℕ → List T → List T → Type 0
  FillsUp value count old new =
      (copies : List T) × (new ≡ old ++ copies ++ value ∷ []) × All (same value) copies × (length new ≡ count)
