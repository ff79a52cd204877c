use Rattle.std.proofs.Common.{◌≡◌, ℕ, ◌<◌, get_or}
use Rattle.wic_vec.proofs.callers.write_everywhere.Given as goal

abbrev pub invariant-loop-element : goal.invariant-loop-element
invariant-loop-element l = (k : ℕ) → k < l.element-index → get_or l.element-items k 0 ≡ l.number
