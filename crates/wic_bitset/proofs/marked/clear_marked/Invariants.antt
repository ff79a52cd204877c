use Rattle.std.proofs.Common.{◌≡◌, ◌-◌, ◌≤◌}
use Rattle.wic_bitset.proofs.ClearFacts.{StandsMarked}
use Rattle.wic_bitset.proofs.marked.clear_marked.Given as goal

abbrev pub invariant-loop-k : goal.invariant-loop-k
invariant-loop-k g l = record {
  left : StandsMarked g.T.ScalarBitSetStorage.width (g.S.NumberSet.members l.marks) l.next l.words.members;
  within : l.next ≤ l.fn.words.count;
  count : l.words.count ≡ l.fn.words.count;
  room : l.words.room ≡ l.fn.words.room;
}

abbrev pub decreases-loop-k : goal.decreases-loop-k
decreases-loop-k g l = l.fn.words.count - l.next
