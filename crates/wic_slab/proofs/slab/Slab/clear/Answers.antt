use Rattle.std.proofs.Common.{arith}
use Rattle.wic_slab.proofs.SoundFacts.{IsSound-empty, live_of-empty}
use Rattle.wic_slab.proofs.slab.Slab.clear.Goals as goal

pub invariant_of-self : goal.invariant_of-self
invariant_of-self g c = (IsSound-empty _ c.clear.ensures.empty, rw c.clear.ensures.empty (omega arith))

pub returns-clause-empty : goal.returns-clause-empty
returns-clause-empty g c = live_of-empty _ c.clear.ensures.empty
