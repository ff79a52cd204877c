use Rattle.std.proofs.Common.{◌≡◌, ◌+◌, ◌-◌, ◌<◌, ◌≤◌, List, ◌++◌, map, reverse, length}
use Rattle.batch_core.specs.declared.record.Record.TheVariants.{Cut}
use Rattle.batch_core.proofs.store.Store.truncate.Given as goal

abbrev pub invariant-loop-self : goal.invariant-loop-self
invariant-loop-self g l =
    let s = l.self-inside in
    let first = l.initial.self-inside in
    ((cut : List g.row.T.Denot) × (first.list.items ≡ s.list.items ++ cut)
    × (s.records.items ≡ first.records.items ++ map Cut (reverse cut)))
    × (s.set ≡ first.set)
    × (s.table ≡ first.table)
    × (s.room ≡ first.room)
    × (s.list.capacity ≡ first.list.capacity)
    × (s.records.capacity ≡ first.records.capacity)
    × (l.kept ≤ length s.list.items)
    × (length s.records.items + (length s.list.items - l.kept) < s.records.capacity)

abbrev pub decreases-loop-self : goal.decreases-loop-self
decreases-loop-self g l = length l.self-inside.list.items
