use Rattle.std.proofs.Common.{◌≤◌}
use Rattle.wic_bitset.specs.Words.{EndsBefore}
use Rattle.wic_bitset.proofs.store.Store.max_within.Given as goal

abbrev pub invariant-loop-k : goal.invariant-loop-k
invariant-loop-k g l = (l.k ≤ l.end) × EndsBefore g.T.ScalarBitSetStorage.width l.self.members l.k

abbrev pub decreases-loop-k : goal.decreases-loop-k
decreases-loop-k g l = l.k
