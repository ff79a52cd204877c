use Rattle.std.proofs.Common.{◌≡◌}
use Rattle.wic_bitset.proofs.ClearFacts.{StandsIn}
use Rattle.wic_bitset.proofs.store.Store.clear_within.Given as goal

abbrev pub invariant-loop-k : goal.invariant-loop-k
invariant-loop-k g l = record {
  left : StandsIn g.T.ScalarBitSetStorage.width l.k l.end l.self.members;
  count : l.self.count ≡ l.fn.self.count;
  room : l.self.room ≡ l.fn.self.room;
}
