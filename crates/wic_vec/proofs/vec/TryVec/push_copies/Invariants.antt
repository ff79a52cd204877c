use Rattle.std.proofs.Common.{◌≡◌, ◌≤◌, ◌-◌, length}
use Rattle.wic_vec.specs.Resized.{AppendsCopies}
use Rattle.wic_vec.proofs.vec.TryVec.push_copies.Given as goal

abbrev pub invariant-loop-alloc : goal.invariant-loop-alloc
invariant-loop-alloc g l = record {
  copies : AppendsCopies g.T.TryClone.same l.value l.initial.self.items l.self.items;
  at_most : length l.self.items ≤ l.len;
  capacity_stays : l.self.capacity ≡ l.initial.self.capacity;
}

abbrev pub decreases-loop-alloc : goal.decreases-loop-alloc
decreases-loop-alloc g l = l.len - length l.self.items
