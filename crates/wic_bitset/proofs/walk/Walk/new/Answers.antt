use Rattle.std.proofs.Common.{◌≡◌, ◌*◌, ◌++◌, ap, ◌∙◌, arith}
use Rattle.wic_bitset.specs.Rising.{members_between}
use Rattle.wic_bitset.proofs.WalkFacts.{walk_all}
use Rattle.wic_bitset.proofs.walk.Walk.new.Goals as goal

pub returns : goal.returns
returns g c =
    let w = g.T.ScalarBitSetStorage.width in
    let words = c.args.words.now in
    let start : 0 * w ≡ 0 = omega arith in
    ap (λ xs. xs ++ members_between words.members (0 * w) (words.count * w)) c.none.ensures
    ∙ ap (λ n. members_between words.members n (words.count * w)) start
    ∙ walk_all w words _ _ c.requires g.T.ScalarBitSetStorage.width_within.positive
