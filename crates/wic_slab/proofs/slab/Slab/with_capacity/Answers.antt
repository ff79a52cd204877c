use Rattle.std.proofs.Common.{arith}
use Rattle.wic_slab.proofs.SoundFacts.{IsSound-empty, live_of-empty}
use Rattle.wic_slab.proofs.slab.Slab.with_capacity.Goals as goal

pub invariant_of-result : goal.invariant_of-result
invariant_of-result g c = (IsSound-empty _ c.in_ok-with_capacity.ensures.empty, rw c.in_ok-with_capacity.ensures.empty (omega arith))

pub returns-clause-empty : goal.returns-clause-empty
returns-clause-empty g c = live_of-empty _ c.in_ok-with_capacity.ensures.empty
