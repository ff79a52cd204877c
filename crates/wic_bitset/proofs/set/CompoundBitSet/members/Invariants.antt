use Rattle.std.proofs.Common.{◌≡◌, ◌+◌, ◌++◌, ◌<◌, ◌≤◌, length}
use Rattle.std.specs.Prelude.{All}
use Rattle.std.specs.Int.{div_ceil}
use Rattle.std.specs.FinSet.{len}
use Rattle.std.specs.List.{flat_map}
use Rattle.wic_bitset.specs.Rising.{rising}
use Rattle.wic_bitset.specs.Summary.{block_members, block_words, filled_words, summary_width}
use Rattle.wic_bitset.proofs.set.CompoundBitSet.members.Given as goal

abbrev pub invariant-loop-s : goal.invariant-loop-s
invariant-loop-s g l =
    let w = g.T.ScalarBitSetStorage.width in
    let set = l.self in
    let left = l.s-iterator in
    record {
      listed : l.list.items ++ flat_map (block_members w summary_width set.members) left ≡ rising set.members;
      looks : l.steps + length left + length (flat_map (block_words w summary_width set.members) left)
          ≤ l.fn.steps + div_ceil set.words w + len (filled_words w set.members);
      within : All (λ b. b < div_ceil set.words summary_width) left;
    }
