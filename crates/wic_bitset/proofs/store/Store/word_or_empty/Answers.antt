use Rattle.std.proofs.Common.{sym, subst}
use Rattle.wic_bitset.specs.Words.{IsWordOf}
use Rattle.wic_bitset.proofs.WordFacts.{word_of, no_word_of}
use Rattle.wic_bitset.proofs.store.Store.word_or_empty.Goals as goal

pub returns-in-Some : goal.returns-in-Some
returns-in-Some g c =
    let w = g.T.ScalarBitSetStorage.width in
    subst (λ v. IsWordOf w v.members c.args.k (g.T.ScalarBitSetStorage.number c.in-Some.word.now.0)) c.self.view_is
    (word_of (λ s. g.T.ScalarBitSetStorage.number s.0) w c.args.k c.self.inside.words.items c.in-Some.word.now
    (sym c.in-Some.ensures.item))

pub returns-in-None : goal.returns-in-None
returns-in-None g c =
    let w = g.T.ScalarBitSetStorage.width in
    subst (λ v. IsWordOf w v.members c.args.k (g.T.ScalarBitSetStorage.number c.new.result.0)) c.self.view_is
    (no_word_of (λ s. g.T.ScalarBitSetStorage.number s.0) w c.args.k c.self.inside.words.items _
    (sym c.in-None.ensures.item) c.new.ensures)
