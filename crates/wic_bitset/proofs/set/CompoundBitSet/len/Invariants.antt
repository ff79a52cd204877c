use Rattle.std.proofs.Common.{◌≡◌, ◌+◌, ◌≤◌, ◌<◌, length}
use Rattle.std.specs.Prelude.{All}
use Rattle.std.specs.FinSet.{len}
use Rattle.std.specs.List.{flat_map}
use Rattle.wic_bitset.specs.Compound.{max_capacity}
use Rattle.wic_bitset.specs.Rising.{word_members}
use Rattle.wic_bitset.proofs.set.CompoundBitSet.len.Given as goal

abbrev pub invariant-loop-k : goal.invariant-loop-k
invariant-loop-k g l =
    let w = g.T.ScalarBitSetStorage.width in
    (l.count + length (flat_map (word_members w l.self.members) l.k-iterator) ≡ len l.self.members)
    × ((len l.self.members ≤ max_capacity) × All (λ k. k < l.self.words) l.k-iterator)
