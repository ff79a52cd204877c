use Rattle.std.proofs.Common.{ap, ◌∙◌}
use Rattle.std.specs.FinSet.{len}
use Rattle.wic_base.proofs.SetFacts.{len-from_list-range}
use Rattle.wic_scalar.proofs.CallFacts.{range_from_and}
use Rattle.wic_scalar.proofs.set.ScalarBitSet.from_range.Goals as goal

pub returns-clause-set : goal.returns-clause-set
returns-clause-set g c = range_from_and _ _ _ _ _ _ _ c.requires.ordered c.requires.within c.below.ensures c.below-2.ensures
    c.bit_not.ensures c.bit_and.ensures

pub returns-clause-count : goal.returns-clause-count
returns-clause-count g c = ap len (returns-clause-set g c) ∙ len-from_list-range _ _
