use Rattle.std.proofs.Common.{◌≡◌}
use Rattle.batch_rows.proofs.guard.inc_n.Given as goal

abbrev pub invariant-loop-i : goal.invariant-loop-i
invariant-loop-i l = l.guard.undo ≡ l.initial.guard.undo
