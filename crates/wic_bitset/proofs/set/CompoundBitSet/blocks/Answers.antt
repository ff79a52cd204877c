use Rattle.std.proofs.Common.{◌<◌, ◌≤◌, length, ap, sym, subst, ◌∙◌, arith}
use Rattle.std.specs.Prelude.{All}
use Rattle.std.specs.Int.{div_ceil}
use Rattle.std.specs.Ordering.{nat_cmp}
use Rattle.std.specs.FinSet.{FinSet}
use Rattle.wic_bitset.specs.Rising.{rising}
use Rattle.wic_bitset.specs.Summary.{filled_words, summary_width}
use Rattle.wic_bitset.proofs.BlockFacts.{All-blocks, few_blocks}
use Rattle.wic_bitset.proofs.SummaryFacts.{summary_is_filled_words}
use Rattle.wic_bitset.proofs.set.CompoundBitSet.blocks.Goals as goal

pub returns-clause-blocks : goal.returns-clause-blocks
returns-clause-blocks g c =
    let w = g.T.ScalarBitSetStorage.width in
    let marks = summary_is_filled_words w c.self.inside.words _ _ c.self.invariant.0 ∙ ap (λ v. filled_words w v.members) c.self.view_is in
    c.blocks-2.ensures ∙ ap (λ marks. rising (filled_words summary_width marks)) marks

pub returns-clause-few : goal.returns-clause-few
returns-clause-few g c =
    let w = g.T.ScalarBitSetStorage.width in
    subst (λ bs. length bs ≤ div_ceil c.args.self.now.words summary_width) (sym (returns-clause-blocks g c))
    (subst (λ v. length (rising (filled_words summary_width (filled_words w v.members))) ≤ div_ceil v.words summary_width) c.self.view_is
    (few_blocks w summary_width c.self.inside.words _ _ c.self.invariant.0 (omega arith)))

pub returns-clause-within : goal.returns-clause-within
returns-clause-within g c =
    let w = g.T.ScalarBitSetStorage.width in
    let blocks = λ (s : FinSet nat_cmp). rising (filled_words summary_width (filled_words w s)) in
    subst (All (λ b. b < div_ceil c.args.self.now.words summary_width)) (sym (returns-clause-blocks g c))
    (subst (λ v. All (λ b. b < div_ceil v.words summary_width) (blocks v.members)) c.self.view_is
    (All-blocks w summary_width c.self.inside.words _ _ c.self.invariant.0 (omega arith)))
