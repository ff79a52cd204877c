use Rattle.std.proofs.Common.{◌≡◌, ◌++◌}
use Rattle.wic_vec.specs.Drain.{drain_items, DrainKeeps}
use Rattle.wic_vec.proofs.vec.tests.gather_part.Given as goal

abbrev pub invariant-loop-number : goal.invariant-loop-number
invariant-loop-number l = (goal.iterator-loop-number).is_finite l.number-iterator
    × DrainKeeps l.initial.number-iterator l.number-iterator
    × (l.part.items ++ drain_items l.number-iterator ≡ drain_items l.initial.number-iterator)
