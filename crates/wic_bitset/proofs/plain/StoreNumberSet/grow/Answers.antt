use Rattle.std.proofs.Common.{◌*◌, ◌≤◌, ap, ◌∙◌, arith}
use Rattle.std.specs.Int.{div_ceil}
use Rattle.std.proofs.Math.Nat.{mul-le-mul_right}
use Rattle.wic_bitset.proofs.DivisionFacts.{div_ceil-reaches}
use Rattle.wic_bitset.proofs.plain.StoreNumberSet.grow.Goals as goal

pub returns-clause-end : goal.returns-clause-end
returns-clause-end g c =
    let w = g.T.ScalarBitSetStorage.width in
    let need = c.div_ceil.ensures ∙ ap (div_ceil c.args.n) c.width.ensures.value in
    let reach = div_ceil-reaches w c.args.n g.T.ScalarBitSetStorage.width_within.positive in
    let count = c.grow_words.ensures.count in
    let more : div_ceil c.args.n w * w ≤ c.grow_words.new.words.count * w = mul-le-mul_right w (omega arith) in
    omega arith
