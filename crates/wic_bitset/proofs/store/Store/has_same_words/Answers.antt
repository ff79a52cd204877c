use Rattle.std.proofs.lemmas.Bool.{iff_false}
use Rattle.std.proofs.Common.{arith}
use Rattle.wic_bitset.proofs.SameFacts.{same_words_more}
use Rattle.wic_bitset.proofs.store.Store.has_same_words.Goals as goal

pub loop-k-init : goal.loop-k-init
loop-k-init g c = λ i below. absurd (omega arith)

pub loop-k-preserved : goal.loop-k-preserved
loop-k-preserved g c =
    same_words_more g.T.ScalarBitSetStorage.width c.loop-k.k _ _ (c.has_same_word.ensures.0 c.if-not-has_same_word.false) c.loop-k.invariant

pub returns-then-not-has_same_word : goal.returns-then-not-has_same_word
returns-then-not-has_same_word g c = (
  λ no. absurd (cc),
  λ all. absurd (iff_false c.has_same_word.ensures c.if-not-has_same_word.true (λ i at. all i (omega arith))),
)
