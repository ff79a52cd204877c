use Rattle.std.proofs.lemmas.Bool.{iff_false}
use Rattle.wic_bitset.proofs.CombinationFacts.{combined_small, filled_small, Summarizes-combined_empty, Summarizes-combined_filled}
use Rattle.wic_bitset.proofs.marked.combine_marked_word.Goals as goal

pub insert-requires-clause-number : goal.insert-requires-clause-number
insert-requires-clause-number g c =
    let w = g.T.ScalarBitSetStorage.width in
    filled_small w _ c.args.k g.T.ScalarBitSetStorage.width_within.positive
    (combined_small w c.args.how c.args.k _ _ _ c.combine_word-changed.ensures.members c.requires.marks.numbers c.requires.numbers)
    (iff_false c.is_word_empty.ensures c.if-is_word_empty.false)

pub returns-then-is_word_empty-clause-marks : goal.returns-then-is_word_empty-clause-marks
returns-then-is_word_empty-clause-marks g c =
    let word = c.combine_word-changed.ensures in
    Summarizes-combined_empty g.T.ScalarBitSetStorage.width c.args.how c.args.k _ _ _ _ _ _ _ c.requires.marks word.members
    c.requires.numbers c.requires.within word.count c.remove.ensures.end c.remove.ensures.members
    (c.is_word_empty.ensures.0 c.if-is_word_empty.true)

pub returns-else-is_word_empty-clause-marks : goal.returns-else-is_word_empty-clause-marks
returns-else-is_word_empty-clause-marks g c =
    let word = c.combine_word-changed.ensures in
    Summarizes-combined_filled g.T.ScalarBitSetStorage.width c.args.how c.args.k _ _ _ _ _ _ _ c.requires.marks word.members
    c.requires.numbers c.requires.within word.count c.insert.ensures.end c.insert.ensures.members
    (iff_false c.is_word_empty.ensures c.if-is_word_empty.false)
