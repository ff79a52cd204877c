-- What a contract sees of a `Drain`.
use Rattle.std.specs.Prelude.{◌≡◌, ℕ, List, [], ◌∷◌, take, drop, reverse, Option, MatchOption}
use Rattle.std.specs.Borrow.{GName}
use Rattle.std.specs.Iterator.{Yields}
use Rattle.wic_vec.specs.declared.vec.drain.Drain.{Drain}

module _ {T : Type 0} where
  -- the elements that are still to come
  abbrev pub drain_items : Drain T → List T
  drain_items d = reverse (drop d.keep d.vec.now.items)

  -- the elements that the vector has once the drain is dropped
  abbrev pub drain_kept : Drain T → List T
  drain_kept d = take d.keep d.vec.now.items

  -- the capacity that it has then
  abbrev pub drain_capacity : Drain T → ℕ
  drain_capacity d = d.vec.now.capacity

  -- which vector is drained: the name of the reference to it
  abbrev pub drain_lender : Drain T → GName
  drain_lender d = d.vec.ghost_name

  -- old and new drain one vector, and leave it the same elements and capacity
  abbrev pub DrainKeeps : Drain T → Drain T → Type 0
  DrainKeeps old new = (drain_lender new ≡ drain_lender old) × (drain_kept new ≡ drain_kept old)
      × (drain_capacity new ≡ drain_capacity old)

  -- a call of `next` took old to new: it gave the first of the elements that were to come, or there was none
  abbrev pub DrainSteps : Drain T → Option T → Drain T → Type 0
  DrainSteps old item new = MatchOption item ((drain_items old ≡ []) × (new ≡ old))
      (λ x. (drain_items old ≡ x ∷ drain_items new) × DrainKeeps old new)

  -- however many elements are taken out of first, the vector is left the same elements and capacity
  abbrev pub DrainKeepsAlong : Drain T → Type 0
  DrainKeepsAlong first = (items : List T) (later : Drain T)
      → Yields DrainSteps first items later → DrainKeeps first later
