use Rattle.std.proofs.Common.{not, map, set, subst}
use Rattle.wic_bitset.specs.Combination.{CombinesWord, TellsChange}
use Rattle.wic_bitset.specs.Words.{set_of_words}
use Rattle.wic_bitset.proofs.CombinationFacts.{combines_word, word_tells}
use Rattle.wic_bitset.proofs.store.Store.combine_word.Goals as goal

pub returns-clause-members : goal.returns-clause-members
returns-clause-members g c =
    let w = g.T.ScalarBitSetStorage.width in
    let items = c.self.inside.words.items in
    let new = c.of_words-new.result in
    subst
    (λ v. CombinesWord w c.args.how c.args.k v.members c.args.other.now.members
    (set_of_words w (map (λ s. g.T.ScalarBitSetStorage.number s.0) (set items c.args.k new))))
    c.self.view_is
    (combines_word (λ s. g.T.ScalarBitSetStorage.number s.0) w c.args.k items _ new g.T.ScalarBitSetStorage.width_within.positive
    c.index.ensures c.args.how _ _ c.word_or_empty.ensures c.of_words-new.ensures)

pub returns-clause-changed : goal.returns-clause-changed
returns-clause-changed g c =
    let w = g.T.ScalarBitSetStorage.width in
    let items = c.self.inside.words.items in
    let new = c.of_words-new.result in
    subst
    (λ v. TellsChange (not c.eq-same.result) v.members
    (set_of_words w (map (λ s. g.T.ScalarBitSetStorage.number s.0) (set items c.args.k new))))
    c.self.view_is
    (word_tells (λ s. g.T.ScalarBitSetStorage.number s.0) w c.args.k items _ new g.T.ScalarBitSetStorage.width_within.positive
    c.index.ensures c.eq-same.result c.eq-same.ensures.members)
