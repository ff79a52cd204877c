use Rattle.std.proofs.Common.{◌<◌, ◌*◌, ◌∙◌, sym, subst, arith}
use Rattle.wic_bitset.proofs.GrowthFacts.{holds_asked}
use Rattle.wic_bitset.proofs.set.CompoundBitSet.make_room_for.Goals as goal

pub returns-clause-room : goal.returns-clause-room
returns-clause-room g c =
    let w = g.T.ScalarBitSetStorage.width in
    let room = subst (λ count. c.args.i < count * w) (sym (c.grow-2.ensures.count ∙ c.grown_count-grown.ensures.count))
    (holds_asked w c.width.result c.count-count.result c.width.ensures.value c.width.ensures.positive c.args.i) in
    omega (arith, room)
