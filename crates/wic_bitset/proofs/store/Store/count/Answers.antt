use Rattle.std.proofs.Common.{length, sym, subst}
use Rattle.wic_bitset.specs.Words.{EndsBefore}
use Rattle.wic_bitset.proofs.WordFacts.{ends_of_words}
use Rattle.wic_bitset.proofs.store.Store.count.Goals as goal

pub returns-clause-holds_all : goal.returns-clause-holds_all
returns-clause-holds_all g c =
    let w = g.T.ScalarBitSetStorage.width in
    let words = c.self.inside.words.items in
    subst (EndsBefore w c.args.self.now.members) (sym c.len.ensures.length)
    (subst (λ v. EndsBefore w v.members (length words)) c.self.view_is
    (ends_of_words (λ s. g.T.ScalarBitSetStorage.number s.0) w words g.T.ScalarBitSetStorage.width_within.positive))
