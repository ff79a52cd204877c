use Rattle.std.proofs.Common.{◌≡◌, ◌-◌, ◌≤◌}
use Rattle.wic_bitset.specs.Combination.{TellsChange}
use Rattle.wic_bitset.specs.Summary.{Summarizes}
use Rattle.wic_bitset.proofs.CombinationFacts.{CombinesBelow}
use Rattle.wic_bitset.proofs.marked.combine_marked.Given as goal

abbrev pub invariant-loop-k : goal.invariant-loop-k
invariant-loop-k g l =
    let w = g.T.ScalarBitSetStorage.width in
    let set = g.S.NumberSet in
    record {
      members : CombinesBelow w l.how l.next l.fn.words.members l.other.members l.words.members;
      changed : TellsChange l.changed l.fn.words.members l.words.members;
      marks : Summarizes w l.words (set.members l.marks) (set.end l.marks);
      within : l.next ≤ l.fn.words.count;
      count : l.words.count ≡ l.fn.words.count;
      room : l.words.room ≡ l.fn.words.room;
      marks_room : set.room l.marks ≡ set.room l.fn.marks;
    }

abbrev pub decreases-loop-k : goal.decreases-loop-k
decreases-loop-k g l = l.fn.words.count - l.next
