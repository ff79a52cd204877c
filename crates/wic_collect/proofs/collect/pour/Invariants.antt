use Rattle.std.proofs.Common.{◌≡◌, ◌-◌, ◌<◌, ◌≤◌, ◌^◌, ◌++◌, List, length, IfSome}
use Rattle.wic_collect.specs.Collect.{Reads}
use Rattle.wic_collect.proofs.collect.pour.Given as goal

abbrev pub invariant-loop-limit : goal.invariant-loop-limit
invariant-loop-limit g l = record {
  ready : IfSome l.limit (λ most. length l.to.items < most) → g.I.Iterator.can_next l.iter;
  within : IfSome l.limit (λ most. length l.to.items ≤ most);
  capacity : l.initial.to.capacity ≤ l.to.capacity;
  kept : IfSome l.limit (λ most. most ≤ l.initial.to.capacity → l.to.capacity ≡ l.initial.to.capacity);
  read : (values : List g.row.T.Denot) × (l.to.items ≡ l.initial.to.items ++ values)
      × Reads g.I.Iterator.next_gives g.X.IntoResult.as_result l.initial.iter values l.iter;
}

abbrev pub decreases-loop-limit : goal.decreases-loop-limit
decreases-loop-limit g l = 2 ^ 64 - length l.to.items
