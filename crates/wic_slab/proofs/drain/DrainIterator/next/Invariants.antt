use Rattle.std.proofs.Common.{◌≡◌, ◌-◌}
use Rattle.wic_slab.proofs.DrainFacts.{NoneOutside}
use Rattle.wic_slab.proofs.drain.DrainIterator.next.Given as goal

-- only places with no live id were passed over
abbrev pub invariant-loop-self : goal.invariant-loop-self
invariant-loop-self g l =
    (l.self.slab ≡ l.fn.self.slab)
    × (l.self.end ≡ l.fn.self.end)
    × NoneOutside l.self.slab.now.live l.self.place l.self.end

abbrev pub decreases-loop-self : goal.decreases-loop-self
decreases-loop-self g l = l.self.end - l.self.place
