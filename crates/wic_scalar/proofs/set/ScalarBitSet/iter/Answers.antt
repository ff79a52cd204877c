use Rattle.std.proofs.Common.{◌<◌}
use Rattle.wic_scalar.proofs.MemberFacts.{All-members_of, rising-members_of}
use Rattle.wic_scalar.proofs.set.ScalarBitSet.iter.Goals as goal

pub returns-clause-rising : goal.returns-clause-rising
returns-clause-rising g c = rising-members_of _ _

pub returns-clause-within : goal.returns-clause-within
returns-clause-within g c = All-members_of (λ k. k < g.T.ScalarBitSetStorage.width) _ _ (λ i low one. low)
