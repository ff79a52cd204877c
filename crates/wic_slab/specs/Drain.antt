-- What a contract sees of a `Drain`.
use Rattle.std.specs.Prelude.{◌≡◌, ◌⊎◌, ℕ, ◌<◌, ◌≤◌, List, Option, None}
use Rattle.std.specs.Borrow.{GName}
use Rattle.std.specs.FinMap.{entries, get}
use Rattle.std.specs.Iterator.{YieldsFirst, Yields}
use Rattle.wic_slab.specs.declared.drain.Drain.{Drain}

module _ {T : Type 0} where
  -- the ids with their values that are still to come, in ascending order of the ids
  abbrev pub drain_pairs : Drain T → List (ℕ × T)
  drain_pairs d = entries d.slab.now.live

  -- the capacity that the slab has once the drain is dropped
  abbrev pub drain_capacity : Drain T → ℕ
  drain_capacity d = d.slab.now.capacity

  -- which slab is drained: the name of the reference to it
  abbrev pub drain_lender : Drain T → GName
  drain_lender d = d.slab.ghost_name

  -- no id is live outside the places that are still to be visited
  abbrev pub DrainCanStep : Drain T → Type 0
  DrainCanStep d = (id : ℕ) → (id < d.place) ⊎ (d.end ≤ id) → get d.slab.now.live id ≡ None

  -- old and new drain one slab, and leave it the same capacity
  abbrev pub DrainKeeps : Drain T → Drain T → Type 0
  DrainKeeps old new = (drain_lender new ≡ drain_lender old) × (drain_capacity new ≡ drain_capacity old)

  -- a call of `next` took old to new: it gave the first of the pairs that were to come, or there was none
  abbrev pub DrainSteps : Drain T → Option (ℕ × T) → Drain T → Type 0
  DrainSteps old item new = YieldsFirst drain_pairs old item new × DrainKeeps old new × DrainCanStep new

  -- however many pairs are taken out of first, the slab is left the same capacity
  abbrev pub DrainKeepsAlong : Drain T → Type 0
  DrainKeepsAlong first = (items : List (ℕ × T)) (later : Drain T)
      → Yields DrainSteps first items later → DrainKeeps first later
