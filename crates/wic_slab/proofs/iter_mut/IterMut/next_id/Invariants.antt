use Rattle.std.proofs.Common.{◌≡◌, ◌-◌, ◌<◌, ◌≤◌, ℕ, false, max}
use Rattle.std.specs.FinMap.{contains_key}
use Rattle.wic_slab.proofs.iter_mut.IterMut.next_id.Given as goal

-- no live id was passed over
abbrev pub invariant-loop-self : goal.invariant-loop-self
invariant-loop-self g l =
    (l.self.slab ≡ l.fn.self.slab)
    × (l.fn.self.place ≤ l.self.place)
    × (l.self.place ≤ max l.fn.self.place l.end)
    × ((id : ℕ) → l.fn.self.place ≤ id → id < l.self.place → contains_key l.fn.self.slab.now.live id ≡ false)

abbrev pub decreases-loop-self : goal.decreases-loop-self
decreases-loop-self g l = l.end - l.self.place
