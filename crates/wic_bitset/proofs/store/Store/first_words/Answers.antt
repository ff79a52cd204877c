use Rattle.std.proofs.Common.{sym, subst, map, take}
use Rattle.wic_bitset.specs.Words.{AreFirstWords}
use Rattle.wic_bitset.specs.Words.{set_of_words}
use Rattle.wic_bitset.proofs.WordFacts.{first_words_of}
use Rattle.wic_bitset.proofs.store.Store.first_words.Goals as goal

pub returns-clause-words : goal.returns-clause-words
returns-clause-words g c =
    let w = g.T.ScalarBitSetStorage.width in
    let numbers = map (λ s. g.T.ScalarBitSetStorage.number s.0) in
    subst (λ v. AreFirstWords w v.members (numbers (take c.args.n c.as_slice-words.result.now))) c.self.view_is
    (subst (λ items. AreFirstWords w (set_of_words w (numbers c.self.inside.words.items)) (numbers (take c.args.n items)))
    (sym c.as_slice-words.ensures.items)
    (first_words_of (λ s. g.T.ScalarBitSetStorage.number s.0) w c.args.n c.self.inside.words.items))
