use Rattle.std.proofs.Common.{◌≡◌}
use Rattle.std.specs.List.{flat_map, fold}
use Rattle.std.specs.Hash as fed
use Rattle.wic_bitset.specs.Rising.{rising}
use Rattle.wic_bitset.proofs.compared.CompoundBitSetHash.hash.Given as goal

abbrev pub invariant-loop-x : goal.invariant-loop-x
invariant-loop-x g l = fold g.H.Hasher.write l.state (flat_map fed.usize l.x-iterator) ≡ fold g.H.Hasher.write l.fn.state
    (fed.slice fed.usize (rising l.self.members))
