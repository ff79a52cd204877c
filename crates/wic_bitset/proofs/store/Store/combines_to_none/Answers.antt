use Rattle.wic_bitset.proofs.CombinationFacts.{none_of_word}
use Rattle.wic_bitset.proofs.store.Store.combines_to_none.Goals as goal

pub returns : goal.returns
returns g c =
    none_of_word g.T.ScalarBitSetStorage.width c.args.how c.args.k _ _ _ _ _ _ g.T.ScalarBitSetStorage.width_within.positive
    c.word_or_empty.ensures c.word_or_empty-2.ensures c.of_words.ensures c.is_empty.ensures
