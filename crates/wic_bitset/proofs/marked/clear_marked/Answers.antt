use Rattle.std.proofs.Common.{arith}
use Rattle.wic_bitset.proofs.ClearFacts.{stands_marked-none}
use Rattle.wic_bitset.proofs.SummaryFacts.{Summarizes-none}
use Rattle.wic_bitset.proofs.marked.clear_marked.Goals as goal

pub returns-clause-members : goal.returns-clause-members
returns-clause-members g c =
    stands_marked-none g.T.ScalarBitSetStorage.width c.loop-k.next _ _ c.in_default.ensures c.loop-k.invariant.left

pub returns-clause-marks : goal.returns-clause-marks
returns-clause-marks g c =
    let count = c.loop-k.invariant.count in
    Summarizes-none g.T.ScalarBitSetStorage.width _ _ _ (omega (arith, c.requires.few)) (returns-clause-members g c)
    c.clear.ensures.members (omega (arith, c.requires.reach, c.clear.ensures.end))
