use Rattle.std.proofs.Common.{sym, ◌∙◌}
use Rattle.wic_scalar.proofs.CallFacts.{as_many_listed, at_most_width}
use Rattle.wic_scalar.proofs.set.ScalarBitSet.len.Goals as goal

pub returns-clause-count : goal.returns-clause-count
returns-clause-count g c = c.count_ones.ensures ∙ sym (as_many_listed _ _)

pub returns-clause-within : goal.returns-clause-within
returns-clause-within g c = rw (c.count_ones.ensures ∙ sym (as_many_listed _ _)) (at_most_width _ _)
