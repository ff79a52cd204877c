use Rattle.std.proofs.Common.{◌≡◌, ◌-◌, ◌≤◌, false}
use Rattle.std.specs.FinSet.{contains}
use Rattle.wic_bitset.specs.Combination.{combined}
use Rattle.wic_bitset.proofs.MarkedFacts.{HoldsMarked}
use Rattle.wic_bitset.proofs.marked.keeps_none_marked.Given as goal

abbrev pub invariant-loop-k : goal.invariant-loop-k
invariant-loop-k g l = record {
  none : HoldsMarked g.T.ScalarBitSetStorage.width (g.S.NumberSet.members l.marks) l.next
      (λ i. combined l.how (contains l.words.members i) (contains l.other.members i) ≡ false);
  within : l.next ≤ l.words.count;
}

abbrev pub decreases-loop-k : goal.decreases-loop-k
decreases-loop-k g l = l.words.count - l.next
