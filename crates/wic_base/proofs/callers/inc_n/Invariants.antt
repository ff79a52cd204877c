use Rattle.std.proofs.Common.{◌≡◌, ◌+◌}
use Rattle.wic_base.proofs.callers.inc_n.Given as goal

abbrev pub invariant-loop-i : goal.invariant-loop-i
invariant-loop-i l = record {
  value : l.guard.inner.value ≡ l.initial.guard.inner.value + l._i;
  done : l.guard.inner.done ≡ l._i;
  undo : l.guard.undo ≡ l.initial.guard.undo;
}
