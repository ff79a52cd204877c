use Rattle.std.proofs.Common.{◌≡◌, take, length}
use Rattle.std.specs.List.{AllZip}
use Rattle.wic_vec.proofs.vec.TryVec.from_clones.Given as goal

abbrev pub invariant-loop-item : goal.invariant-loop-item
invariant-loop-item g l = record {
  same : AllZip g.T.TryClone.same (take l.item-index l.items) l.copies.items;
  as_many : length l.copies.items ≡ l.item-index;
  room : l.copies.capacity ≡ length l.items;
}
