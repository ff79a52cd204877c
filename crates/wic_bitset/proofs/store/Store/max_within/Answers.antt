use Rattle.std.proofs.Common.{◌≡◌, ◌+◌, ◌-◌, subst, arith}
use Rattle.wic_bitset.specs.Words.{EndsBefore}
use Rattle.wic_bitset.proofs.GreatestFacts.{ends-none, greatest_of_last_word}
use Rattle.wic_bitset.proofs.store.Store.max_within.Goals as goal

pub returns-in-Some : goal.returns-in-Some
returns-in-Some g c =
    let w = g.T.ScalarBitSetStorage.width in
    let s = c.args.self.now.members in
    let next : c.loop-k.k ≡ c.loop-k.k - 1 + 1 = omega arith in
    greatest_of_last_word w s (c.loop-k.k - 1) c.in-Some.max g.T.ScalarBitSetStorage.width_within.positive
    (subst (EndsBefore w s) next c.loop-k.invariant.1) c.in-Some.ensures

pub returns : goal.returns
returns g c =
    let w = g.T.ScalarBitSetStorage.width in
    let s = c.args.self.now.members in
    let none : c.loop-k.k ≡ 0 = omega arith in
    ends-none w s (subst (EndsBefore w s) none c.loop-k.invariant.1)
