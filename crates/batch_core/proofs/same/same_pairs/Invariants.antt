use Rattle.std.proofs.Common.{◌≡◌, length}
use Rattle.std.specs.Cmp.Lexicographic.{pointwise}
use Rattle.std.specs.FinMap.{entries}
use Rattle.batch_core.specs.Same.{same_pair}
use Rattle.batch_core.proofs.same.same_pairs.Given as goal

abbrev pub invariant-loop-id : goal.invariant-loop-id
invariant-loop-id g l =
    pointwise (same_pair g.T.PartialEq.eq) l.left l.right
    ≡ pointwise (same_pair g.T.PartialEq.eq) (entries l.table.live) (entries l.other.live)

abbrev pub decreases-loop-id : goal.decreases-loop-id
decreases-loop-id g l = length l.left
