use Rattle.std.proofs.Common.{ap, ◌∙◌}
use Rattle.std.specs.FinSet.{is_subset}
use Rattle.wic_bitset.proofs.CombinationFacts.{subset_from_test}
use Rattle.wic_bitset.proofs.set.CompoundBitSet.is_subset.Goals as goal

pub returns : goal.returns
returns g c =
    subset_from_test c.self.inside.words.members c.other.inside.words.members c.keeps_none_marked.result c.keeps_none_marked.ensures
    ∙ ap (λ v. is_subset v.members c.other.inside.words.members) c.self.view_is
    ∙ ap (λ v. is_subset c.args.self.now.members v.members) c.other.view_is
