use Rattle.std.proofs.Common.{◌≡◌, ◌++◌}
use Rattle.wic_bitset.specs.Rising.{word_members}
use Rattle.wic_bitset.proofs.set.CompoundBitSet.push_word.Given as goal

abbrev pub invariant-loop-i : goal.invariant-loop-i
invariant-loop-i g l =
    l.list.items ++ l.i-iterator ≡ l.fn.list.items ++ word_members g.T.ScalarBitSetStorage.width l.self.members l.k
