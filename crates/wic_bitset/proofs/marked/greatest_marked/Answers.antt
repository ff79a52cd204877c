use Rattle.wic_bitset.proofs.SummaryFacts.{max_through_summary, none_through_summary, summary_within}
use Rattle.wic_bitset.proofs.marked.greatest_marked.Goals as goal

pub max_of_word-requires : goal.max_of_word-requires
max_of_word-requires g c =
    summary_within g.T.ScalarBitSetStorage.width _ _ _ c.requires c.in-Some.k c.in-Some.ensures.member

pub returns-in-Some : goal.returns-in-Some
returns-in-Some g c =
    max_through_summary g.T.ScalarBitSetStorage.width _ _ _ c.requires g.T.ScalarBitSetStorage.width_within.positive c.in-Some.k _
    c.in-Some.ensures c.max_of_word.ensures

pub returns-in-None : goal.returns-in-None
returns-in-None g c = none_through_summary g.T.ScalarBitSetStorage.width _ _ _ c.requires c.in-None.ensures
