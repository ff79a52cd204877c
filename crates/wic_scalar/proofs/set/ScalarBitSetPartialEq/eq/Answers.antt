use Rattle.wic_scalar.proofs.CallFacts.{eq_from_test, same_set_from_test}
use Rattle.wic_scalar.proofs.set.ScalarBitSetPartialEq.eq.Goals as goal

pub returns-clause-value : goal.returns-clause-value
returns-clause-value g c = eq_from_test _ _ _ _ c.is_equal.ensures

pub returns-clause-members : goal.returns-clause-members
returns-clause-members g c = same_set_from_test _ _ _ _ c.is_equal.ensures
