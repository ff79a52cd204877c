-- Which variables are live at a block, by paths.
use Rattle.std.specs.Prelude.{◌≡◌, ℕ, ◌<◌, Bool, true, false, ◌↔◌, ◌⊎◌, List, [], ◌∷◌, length, slice_index_or}
use Rattle.std.specs.FinSet.{contains, empty}
use Rattle.entity_set.specs.Entities.{Entities}
use Rattle.liveness.specs.Graph.{Body, block, HasEdge, defines, HasExposedUse}

-- block b and the blocks after it are a path; its last block has an exposed use of v, and no block before that defines v
abbrev pub IsLivePath : List Body → ℕ → ℕ → List ℕ → Type 0
IsLivePath g v b [] = HasExposedUse (block g b).0 v
IsLivePath g v b (c ∷ rest) = (defines (block g b).0 v ≡ false) × (HasEdge g b c × IsLivePath g v c rest)

-- v is live at b: there is such a path
abbrev pub IsLive : List Body → ℕ → ℕ → Type 0
IsLive g v b = (rest : List ℕ) × IsLivePath g v b rest

-- v is live at a successor of b
abbrev pub IsLiveAfter : List Body → ℕ → ℕ → Type 0
IsLiveAfter g v b = (c : ℕ) × (HasEdge g b c × IsLive g v c)

-- the flow equation: v is used in b before it is defined there, or isn't defined there and is live at a successor
abbrev pub FlowsInto : List Body → ℕ → ℕ → Type 0
FlowsInto g v b = HasExposedUse (block g b).0 v ⊎ ((defines (block g b).0 v ≡ false) × IsLiveAfter g v b)

-- whether v is in the set of block b
abbrev pub has : List Entities → ℕ → ℕ → Bool
has sets v b = contains (slice_index_or sets b (record { members = empty; capacity = 0 })).members v

-- one set for each block: exactly the variables that are live there
pub record AreLive (g : List Body) (sets : List Entities) : Type 0 where
  pub count : length sets ≡ length g
  pub exact : (b : ℕ) → b < length g → (v : ℕ) → (has sets v b ≡ true) ↔ IsLive g v b
