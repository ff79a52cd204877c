use Rattle.std.proofs.Common.{◌<◌, sym, subst}
use Rattle.std.specs.Prelude.{All}
use Rattle.wic_bitset.proofs.RisingFacts.{All-rising}
use Rattle.entity_set.proofs.set.EntitySet.keys.Goals as goal

pub new-requires : goal.new-requires
new-requires g c =
    subst (All (λ i. i < g.K.EntityRef.limit)) (sym c.iter.ensures.members)
    (All-rising (λ i. i < g.K.EntityRef.limit) c.self.inside.bits.members c.self.invariant)
