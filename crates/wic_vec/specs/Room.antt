-- What calls do to the room of a vector or a text.
use Rattle.std.specs.Prelude.{◌≡◌, ℕ, ◌+◌, ◌<◌, ◌≤◌, List, ◌++◌, length, Result, IsOk, OnOk, OnErr}

-- room is made for so many more places than there are, in a value whose length and capacity these two functions tell
pub record MakesRoom {V A E : Type 0} (length_of capacity_of : V → ℕ) (old new : V) (more : ℕ) (result : Result A E) : Type 0 where
  -- after an Ok there is that room
  pub room : OnOk result (length_of new + more ≤ capacity_of new)
  -- if there was that room already, the call isn't refused, and the value stays as a whole
  pub never_refused_within : length_of old + more ≤ capacity_of old → IsOk result
  pub unchanged_within : length_of old + more ≤ capacity_of old → new ≡ old
  -- a refusal comes only if the room was missing, and leaves the value
  pub refused_only_beyond : OnErr result (capacity_of old < length_of old + more)
  pub refusal_leaves : OnErr result (new ≡ old)
  pub capacity_never_falls : capacity_of old ≤ capacity_of new
  -- the length is at most the capacity
  pub within : length_of new ≤ capacity_of new

-- more is put at the end of a value whose contents and capacity these two functions tell
pub record PutsAtEnd {V X A E : Type 0} (contents_of : V → List X) (capacity_of : V → ℕ) (old new : V) (more : List X)
    (result : Result A E) : Type 0 where
  -- after an Ok it stands there
  pub last : OnOk result (contents_of new ≡ contents_of old ++ more)
  -- within the capacity the call isn't refused, and the capacity stays
  pub never_refused_within : length (contents_of old) + length more ≤ capacity_of old → IsOk result
  pub capacity_kept_within : length (contents_of old) + length more ≤ capacity_of old → capacity_of new ≡ capacity_of old
  -- a refusal comes only beyond the capacity, and leaves the value
  pub refused_only_beyond : OnErr result (capacity_of old < length (contents_of old) + length more)
  pub refusal_leaves : OnErr result (new ≡ old)
  pub capacity_never_falls : capacity_of old ≤ capacity_of new
  -- the length is at most the capacity
  pub within : length (contents_of new) ≤ capacity_of new
