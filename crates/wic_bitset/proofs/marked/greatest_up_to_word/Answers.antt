use Rattle.wic_bitset.proofs.GreatestFacts.{greatest_of_last_word}
use Rattle.wic_bitset.proofs.SummaryFacts.{max_through_summary, none_through_summary}
use Rattle.wic_bitset.proofs.marked.greatest_up_to_word.Goals as goal

pub returns-in-Some : goal.returns-in-Some
returns-in-Some g c =
    greatest_of_last_word g.T.ScalarBitSetStorage.width _ _ _ g.T.ScalarBitSetStorage.width_within.positive c.requires.last c.in-Some.ensures

pub returns-in-Some-greatest_up_to : goal.returns-in-Some-greatest_up_to
returns-in-Some-greatest_up_to g c =
    max_through_summary g.T.ScalarBitSetStorage.width _ _ _ c.requires.marks g.T.ScalarBitSetStorage.width_within.positive
    c.in-Some-greatest_up_to.last _ c.in-Some-greatest_up_to.ensures c.max_of_word-in-Some-greatest_up_to.ensures

pub returns-in-None-greatest_up_to : goal.returns-in-None-greatest_up_to
returns-in-None-greatest_up_to g c =
    none_through_summary g.T.ScalarBitSetStorage.width _ _ _ c.requires.marks c.in-None-greatest_up_to.ensures
