use Rattle.std.proofs.Common.{◌↔◌, true, IsTrue, sym, subst, refl}
use Rattle.wic_bitset.specs.Words.{IsWordEmpty}
use Rattle.wic_bitset.proofs.WordFacts.{word_is_empty, no_word_is_empty}
use Rattle.wic_bitset.proofs.store.Store.is_word_empty.Goals as goal

pub returns-in-Some : goal.returns-in-Some
returns-in-Some g c =
    let w = g.T.ScalarBitSetStorage.width in
    let same = word_is_empty (λ s. g.T.ScalarBitSetStorage.number s.0) w c.args.k c.self.inside.words.items c.in-Some.word.now
    g.T.ScalarBitSetStorage.width_within.positive (sym c.in-Some.ensures.item) in
    subst (λ v. IsTrue c.is_empty.result ↔ IsWordEmpty w v.members c.args.k) c.self.view_is
    (λ yes. same.0 (c.is_empty.ensures.0 yes), λ none. c.is_empty.ensures.1 (same.1 none))

pub returns-in-None : goal.returns-in-None
returns-in-None g c =
    let w = g.T.ScalarBitSetStorage.width in
    subst (λ v. IsTrue true ↔ IsWordEmpty w v.members c.args.k) c.self.view_is (
      λ _. no_word_is_empty (λ s. g.T.ScalarBitSetStorage.number s.0) w c.args.k c.self.inside.words.items
          g.T.ScalarBitSetStorage.width_within.positive
          (sym c.in-None.ensures.item),
      λ _. refl,
    )
