use Rattle.std.proofs.Common.{arith}
use Rattle.wic_slab.proofs.SoundFacts.{IsSound-empty, live_of-empty}
use Rattle.wic_slab.proofs.slab.Slab.new.Goals as goal

pub invariant_of-result : goal.invariant_of-result
invariant_of-result g c = (IsSound-empty _ c.new.ensures.empty, rw c.new.ensures.empty (omega arith))

pub returns-clause-empty : goal.returns-clause-empty
returns-clause-empty g c = live_of-empty _ c.new.ensures.empty
