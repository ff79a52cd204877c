use Rattle.std.proofs.Common.{◌<◌, map, set, sym, subst}
use Rattle.wic_bitset.specs.Words.{EmptiesWord, set_of_words}
use Rattle.wic_bitset.proofs.WordFacts.{empties_word}
use Rattle.wic_bitset.proofs.store.Store.clear_word.Goals as goal

pub returns-clause-members : goal.returns-clause-members
returns-clause-members g c =
    let w = g.T.ScalarBitSetStorage.width in
    let items = c.self.inside.words.items in
    subst
    (λ v. EmptiesWord w c.args.k v.members
    (set_of_words w (map (λ s. g.T.ScalarBitSetStorage.number s.0) (set items c.args.k c.new.result))))
    c.self.view_is
    (empties_word (λ s. g.T.ScalarBitSetStorage.number s.0) w c.args.k items c.new.result g.T.ScalarBitSetStorage.width_within.positive
    (subst (λ v. c.args.k < v.count) (sym c.self.view_is) c.requires) c.new.ensures)
