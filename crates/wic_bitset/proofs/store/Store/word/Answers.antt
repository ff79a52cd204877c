use Rattle.std.proofs.Common.{subst}
use Rattle.wic_bitset.specs.Words.{IsWordOf}
use Rattle.wic_bitset.proofs.WordFacts.{word_of}
use Rattle.wic_bitset.proofs.store.Store.word.Goals as goal

pub returns : goal.returns
returns g c =
    let w = g.T.ScalarBitSetStorage.width in
    subst (λ v. IsWordOf w v.members c.args.k (g.T.ScalarBitSetStorage.number c.index.result.now.0)) c.self.view_is
    (word_of (λ s. g.T.ScalarBitSetStorage.number s.0) w c.args.k c.self.inside.words.items c.index.result.now c.index.ensures)
