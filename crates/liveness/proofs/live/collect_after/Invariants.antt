use Rattle.std.proofs.Common.{◌≡◌, ℕ, take}
use Rattle.std.specs.List.{list_any}
use Rattle.std.specs.FinSet.{contains}
use Rattle.liveness.specs.Live.{has}
use Rattle.liveness.proofs.live.collect_after.Given as goal

abbrev pub invariant-loop-c : goal.invariant-loop-c
invariant-loop-c l = (v : ℕ) → contains l.after.members v ≡ list_any (λ c. has l.live.items v c.0) (take l.c-index l.c-items)
