use Rattle.std.proofs.Common.{◌+◌, refl, sym, subst}
use Rattle.wic_bitset.specs.Words.{IsGreatestOfWord}
use Rattle.wic_bitset.proofs.WordFacts.{empty_word, greatest_of_word}
use Rattle.wic_bitset.proofs.store.Store.max_of_word.Goals as goal

pub returns-in-Some : goal.returns-in-Some
returns-in-Some g c =
    let w = g.T.ScalarBitSetStorage.width in
    let s = c.args.self.now.members in
    subst (λ n. IsGreatestOfWord w s c.args.k (n + c.in-Some.place)) (sym c.start-start.ensures.start)
    (greatest_of_word w s c.args.k _ g.T.ScalarBitSetStorage.width_within.positive c.word.ensures c.in-Some.place
    c.in-Some.ensures.within c.in-Some.ensures.greatest)

pub returns-in-None : goal.returns-in-None
returns-in-None g c =
    empty_word g.T.ScalarBitSetStorage.width c.args.self.now.members c.args.k _ g.T.ScalarBitSetStorage.width_within.positive
    c.word.ensures (c.in-None.ensures.none.0 refl)
