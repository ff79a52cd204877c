use Rattle.std.proofs.Common.{◌≡◌, ◌<◌, ◌++◌, length}
use Rattle.std.specs.Prelude.{All}
use Rattle.std.specs.List.{flat_map}
use Rattle.wic_bitset.specs.Rising.{word_members}
use Rattle.wic_bitset.proofs.iter.IterIterator.next.Given as goal

abbrev pub invariant-loop-i : goal.invariant-loop-i
invariant-loop-i g l =
    let it = l.self-inside in
    (it.word ++ flat_map (word_members g.T.ScalarBitSetStorage.width it.words.now.members) it.filled ≡ l.fn.self)
    × All (λ k. k < it.words.now.count) it.filled

abbrev pub decreases-loop-i : goal.decreases-loop-i
decreases-loop-i g l = length l.self-inside.filled
