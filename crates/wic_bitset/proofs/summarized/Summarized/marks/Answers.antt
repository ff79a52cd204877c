use Rattle.std.proofs.Common.{ap, ◌∙◌}
use Rattle.wic_bitset.specs.Summary.{filled_words}
use Rattle.wic_bitset.proofs.SummaryFacts.{summary_is_filled_words}
use Rattle.wic_bitset.proofs.summarized.Summarized.marks.Goals as goal

pub returns : goal.returns
returns g c =
    let w = g.T.ScalarBitSetStorage.width in
    summary_is_filled_words w c.self.inside.words _ _ c.self.invariant ∙ ap (λ v. filled_words w v.members) c.self.view_is
