use Rattle.std.proofs.Common.{◌≡◌, ◌-◌, ◌≤◌}
use Rattle.std.specs.FinSet.{contains}
use Rattle.wic_bitset.proofs.MarkedFacts.{HoldsMarked}
use Rattle.wic_bitset.proofs.marked.same_marked.Given as goal

abbrev pub invariant-loop-k : goal.invariant-loop-k
invariant-loop-k g l = record {
  same : HoldsMarked g.T.ScalarBitSetStorage.width (g.S.NumberSet.members l.marks) l.next
      (λ i. contains l.words.members i ≡ contains l.other_words.members i);
  within : l.next ≤ l.words.count;
}

abbrev pub decreases-loop-k : goal.decreases-loop-k
decreases-loop-k g l = l.words.count - l.next
