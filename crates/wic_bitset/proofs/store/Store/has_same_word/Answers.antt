use Rattle.wic_bitset.proofs.SameFacts.{same_word}
use Rattle.wic_bitset.proofs.store.Store.has_same_word.Goals as goal

pub returns : goal.returns
returns g c =
    same_word g.T.ScalarBitSetStorage.width c.args.k _ _ _ _ _ g.T.ScalarBitSetStorage.width_within.positive
    c.word_or_empty.ensures c.word_or_empty-2.ensures c.eq.ensures.members
