use Rattle.std.proofs.Common.{◌≡◌, ◌+◌, ◌++◌, ◌≤◌, ◌<◌, length}
use Rattle.std.specs.Prelude.{All}
use Rattle.std.specs.List.{flat_map}
use Rattle.wic_bitset.specs.Rising.{word_members}
use Rattle.wic_bitset.specs.Summary.{block_members, block_words, summary_width}
use Rattle.wic_bitset.proofs.set.CompoundBitSet.push_block.Given as goal

abbrev pub invariant-loop-k : goal.invariant-loop-k
invariant-loop-k g l =
    let w = g.T.ScalarBitSetStorage.width in
    let s = l.self.members in
    (l.list.items ++ flat_map (word_members w s) l.k-iterator ≡ l.fn.list.items ++ block_members w summary_width s l.s)
    × ((l.steps + length l.k-iterator ≤ l.fn.steps + 1 + length (block_words w summary_width s l.s))
    × All (λ k. k < l.self.words) l.k-iterator)
