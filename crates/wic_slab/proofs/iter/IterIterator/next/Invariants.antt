use Rattle.std.proofs.Common.{◌≡◌, ◌+◌, ◌≤◌, length}
use Rattle.wic_slab.specs.Order.{max_capacity}
use Rattle.wic_slab.specs.Entry.{pairs_from}
use Rattle.wic_slab.proofs.iter.IterIterator.next.Given as goal

-- only vacant entries were passed over
abbrev pub invariant-loop-entry : goal.invariant-loop-entry
invariant-loop-entry g l =
    (l.self-inside.place + length l.self-inside.entries.now ≤ max_capacity)
    × (pairs_from l.self-inside.place l.self-inside.entries.now ≡ l.fn.self)

abbrev pub decreases-loop-entry : goal.decreases-loop-entry
decreases-loop-entry g l = length l.self-inside.entries.now
