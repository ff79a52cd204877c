-- Batches in sequence.
use Rattle.std.specs.Prelude.{⊤, ℕ, ◌≤◌, List, [], ◌∷◌}
use Rattle.batch_core.specs.State.{Contents}
use Rattle.batch_core.specs.Course.{Stand, course_of, places_of}
use Rattle.batch_core.specs.Batch.{outcome_of}
use Rattle.batch_core.specs.Room.{Fits}
use Rattle.batch_core.specs.declared.command.Batch.{Batch}

module _ {T : Type 0} where
  -- the contents after one batch
  abbrev pub contents_after_one : Contents T → Batch T → Contents T
  contents_after_one contents batch = (outcome_of contents (course_of contents batch) batch.end).1

  -- the contents after all these batches
  abbrev pub contents_after_all : Contents T → List (Batch T) → Contents T
  contents_after_all contents [] = contents
  contents_after_all contents (batch ∷ batches) = contents_after_all (contents_after_one contents batch) batches

  -- each of these batches fits the room where it stands
  abbrev pub AllFit : ℕ → Contents T → List (Batch T) → Type 0
  AllFit room contents [] = ⊤
  AllFit room contents (batch ∷ batches) =
      Fits room (places_of batch) (course_of contents batch).stands × AllFit room (contents_after_one contents batch) batches

-- what fits a room fits every larger one, whatever has this course
abbrev pub FitsLargerRoomsOver : Type 0 → Type 0
FitsLargerRoomsOver T =
    (room larger places : ℕ) (stands : List (Stand T)) → room ≤ larger → Fits room places stands → Fits larger places stands

-- a batch that fits a room fits every larger one
abbrev pub FitsLargerRooms : Type 0 → Type 0
FitsLargerRooms T =
    (room larger : ℕ) (contents : Contents T) (batch : Batch T) → room ≤ larger
    → Fits room (places_of batch) (course_of contents batch).stands
    → Fits larger (places_of batch) (course_of contents batch).stands
