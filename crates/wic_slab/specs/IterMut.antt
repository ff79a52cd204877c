-- What a contract sees of an `IterMut`.
use Rattle.std.specs.Prelude.{[], ◌≡◌, ℕ, ◌+◌, ◌-◌, ◌<◌, ◌≤◌, max, true, false, Option, Some, None}
use Rattle.std.specs.Borrow.{follows, Fml, GName, RattleType, MutBor}
use Rattle.std.specs.FinMap.{contains_key}
use mir.Syntax.{named}
use Rattle.wic_slab.specs.Slab.{Slab, with_value}
use Rattle.wic_slab.specs.declared.iter_mut.IterMut.{IterMut}
use Rattle.wic_slab.specs.contracts.iter_mut.IterMut.{the_row}

module _ {T : Type 0} where
  -- the slab as it stands
  abbrev pub iter_mut_slab : IterMut T → Slab T
  iter_mut_slab it = it.slab.now

  -- ids from this one on are still to come
  abbrev pub iter_mut_from : IterMut T → ℕ
  iter_mut_from it = it.place

  -- a number that falls with each id
  abbrev pub iter_mut_left : IterMut T → ℕ
  iter_mut_left it = it.slab.now.order.fresh - it.place

  -- which slab is walked over: the name of the reference to it
  abbrev pub iter_mut_lender : IterMut T → GName
  iter_mut_lender it = it.slab.ghost_name

  -- the least live id that isn't below `from`
  pub record IsNextLive (s : Slab T) (from id : ℕ) : Type 0 where
    pub at_least : from ≤ id
    pub live : contains_key s.live id ≡ true
    pub least : (other : ℕ) → from ≤ other → other < id → contains_key s.live other ≡ false

  -- no id from `from` on is live
  abbrev pub NoneLiveFrom : Slab T → ℕ → Type 0
  NoneLiveFrom s from = (id : ℕ) → from ≤ id → contains_key s.live id ≡ false

  -- the walk once the value of this id was written
  abbrev pub with_walked_value : IterMut T → ℕ → T → IterMut T
  with_walked_value it id value = record it { slab = record it.slab { now = with_value it.slab.now id value } }

  -- the walk at its end
  abbrev pub walk_ended : IterMut T → IterMut T
  walk_ended it = record it { place = max it.place it.slab.now.order.fresh }

  -- the walk behind this id, or at its end
  abbrev pub walked_to : IterMut T → Option ℕ → IterMut T
  walked_to it None = walk_ended it
  walked_to it (Some id) = record it { place = id + 1 }

-- the value that is written last through the reference is held under the id, and all else stays
abbrev pub lends_value : (T : RattleType) → MutBor (IterMut T.Denot) → ℕ → MutBor T.Denot → Fml
lends_value T it id r =
    follows (the_row (record { mir = named 1; lft = [] }) T) T it.ghost_name r.ghost_name (with_walked_value it.now id)
