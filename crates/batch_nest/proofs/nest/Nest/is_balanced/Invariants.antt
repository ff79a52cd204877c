use Rattle.std.proofs.Common.{◌≤◌, drop}
use Rattle.batch_nest.proofs.LineFacts.{IsOpenFor}
use Rattle.batch_nest.proofs.nest.Nest.is_balanced.Given as goal

abbrev pub invariant-loop-line : goal.invariant-loop-line
invariant-loop-line g l = record {
  left : IsOpenFor l.line-items (drop l.line-index l.line-items) l.depth;
  few : l.depth ≤ l.line-index;
}
