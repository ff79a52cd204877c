use Rattle.std.proofs.Common.{◌≡◌, ℕ, take}
use Rattle.std.specs.FinSet.{contains}
use Rattle.liveness.specs.Graph.{defines}
use Rattle.liveness.specs.Passes.{exposes}
use Rattle.liveness.proofs.live.effect_of.Given as goal

abbrev pub invariant-loop-op : goal.invariant-loop-op
invariant-loop-op l = record {
  defined : (v : ℕ) → contains l.defined.members v ≡ defines (take l.op-index l.ops) v;
  exposed : (v : ℕ) → contains l.exposed.members v ≡ exposes (take l.op-index l.ops) v;
}
