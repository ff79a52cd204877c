-- What the passes keep. Here v is one variable, and m says of each block whether v is in its set.
use Rattle.std.specs.Prelude.{◌≡◌, ◌==◌, ℕ, zero, suc, ◌+◌, ◌*◌, ◌≤◌, ◌<◌, Bool, true, false, not, cond, ◌&&◌, ◌||◌, ◌⊎◌, List, [], ◌∷◌}
use Rattle.std.specs.Prelude.{length}
use Rattle.std.specs.List.{list_any}
use Rattle.entity_set.specs.Entities.{Entities}
use Rattle.liveness.specs.Graph.{Body, block, defines}
use Rattle.liveness.specs.Live.{IsLive, has}
use Rattle.liveness.specs.declared.graph.Op.{Op}
use Rattle.liveness.specs.declared.graph.Op.TheVariants.{Use, Def}

-- whether the ops have an exposed use of v
abbrev pub exposes : List Op → ℕ → Bool
exposes [] v = false
exposes (Use w ∷ ops) v = (w.0 == v) || exposes ops v
exposes (Def w ∷ ops) v = not (w.0 == v) && exposes ops v

-- whether v is needed before the ops, by whether it is needed after them
abbrev pub before : List Op → ℕ → Bool → Bool
before ops v after = exposes ops v || (not (defines ops v) && after)

-- whether a block needs v, if just the blocks of m do
abbrev pub needs_of : Body → ℕ → (ℕ → Bool) → Bool
needs_of body v m = before body.0 v (list_any (λ c. m c.0) body.1)

-- whether block b does
unfoldable pub needs : List Body → ℕ → (ℕ → Bool) → ℕ → Bool
needs g v m b = needs_of (block g b) v m

-- block b is in m if it needs v
abbrev pub IsClosedAt : List Body → ℕ → (ℕ → Bool) → ℕ → Type 0
IsClosedAt g v m b = needs g v m b ≡ true → m b ≡ true

-- so is each block
abbrev pub IsClosed : List Body → ℕ → (ℕ → Bool) → Type 0
IsClosed g v m = (b : ℕ) → b < length g → IsClosedAt g v m b

-- v is live at each block of m
abbrev pub IsSound : List Body → ℕ → (ℕ → Bool) → Type 0
IsSound g v m = (b : ℕ) → m b ≡ true → IsLive g v b

-- how many blocks below n are in m
abbrev pub count_of : (ℕ → Bool) → ℕ → ℕ
count_of m zero = 0
count_of m (suc n) = cond (m n) 1 0 + count_of m n

-- after p passes that each changed a set, p blocks have v, or v is done
abbrev pub HasGained : List Body → ℕ → ℕ → (ℕ → Bool) → Type 0
HasGained g p v m = (p ≤ count_of m (length g)) ⊎ IsClosed g v m

-- down to block `start` in the next pass: one block more has v, or it stands as before and the blocks so far are closed
abbrev pub HasGainedFrom : List Body → ℕ → ℕ → (ℕ → Bool) → ℕ → Type 0
HasGainedFrom g p v m start =
    (p + 1 ≤ count_of m (length g)) ⊎ (HasGained g p v m × ((b : ℕ) → start ≤ b → b < length g → IsClosedAt g v m b))

-- block b has v now if it had it or needs it; other blocks stand as before
pub record IsVisit (g : List Body) (v b : ℕ) (old new : ℕ → Bool) : Type 0 where
  pub here : new b ≡ (old b || needs g v old b)
  pub others : (c : ℕ) → (c ≡ b → ⊥) → new c ≡ old c

-- r says whether the set of block b has a variable more
abbrev pub IsChangeAt : Bool → ℕ → List Entities → List Entities → Type 0
IsChangeAt true b old new = (v : ℕ) × ((has old v b ≡ false) × (has new v b ≡ true))
IsChangeAt false b old new = (v : ℕ) → has new v b ≡ has old v b

-- what a visit of block b does that returns r
pub record IsVisitOf (g : List Body) (r : Bool) (b : ℕ) (old new : List Entities) : Type 0 where
  pub each : (v : ℕ) → IsVisit g v b (has old v) (has new v)
  pub change : IsChangeAt r b old new

-- what a pass from `old` to `new`, which goes from the last block to the first, did down to block `start`, if `changed` tells
-- whether a set changed
pub record IsPassFrom (g : List Body) (changed : Bool) (old new : List Entities) (start : ℕ) : Type 0 where
  pub sound : ((v : ℕ) → IsSound g v (has old v)) → (v : ℕ) → IsSound g v (has new v)
  pub gains : (p : ℕ) → ((v : ℕ) → HasGained g p v (has old v)) → (v : ℕ) → HasGainedFrom g p v (has new v) start
  pub more : (p : ℕ) → ((v : ℕ) → HasGained g p v (has old v)) → changed ≡ true → p + 1 ≤ length g
  pub closed : changed ≡ false → (v b : ℕ) → start ≤ b → b < length g → IsClosedAt g v (has new v) b

-- each of the first `end` blocks was visited: its set has what it exposes, and what it defines is known
pub record IsSurveyed (g : List Body) (end : ℕ) (defined sets : List Entities) : Type 0 where
  pub count_defined : length defined ≡ end
  pub count : length sets ≡ end
  pub defines_just : (b : ℕ) → b < end → (v : ℕ) → has defined v b ≡ defines (block g b).0 v
  pub exposes_just : (b : ℕ) → b < end → (v : ℕ) → has sets v b ≡ exposes (block g b).0 v

-- what each block defines is known, and its set has what it exposes and perhaps more
pub record IsReady (g : List Body) (defined sets : List Entities) : Type 0 where
  pub count_defined : length defined ≡ length g
  pub count : length sets ≡ length g
  pub defines_just : (b : ℕ) → b < length g → (v : ℕ) → has defined v b ≡ defines (block g b).0 v
  pub has_exposed : (b : ℕ) → b < length g → (v : ℕ) → exposes (block g b).0 v ≡ true → has sets v b ≡ true

-- some passes, the survey among them, were made from `start` steps on, and each changed a set
pub record IsAlong (g : List Body) (start steps : ℕ) (sets : List Entities) : Type 0 where
  pub passes : ℕ
  pub few : passes ≤ length g
  pub looks : steps ≡ start + passes * length g
  pub sound : (v : ℕ) → IsSound g v (has sets v)
  pub gained : (v : ℕ) → HasGained g passes v (has sets v)
