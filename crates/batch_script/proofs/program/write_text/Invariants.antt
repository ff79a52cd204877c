use Rattle.std.proofs.Common.{◌≡◌, ◌++◌, List, ℕ, length, Some}
use Rattle.batch_script.specs.Device.{AtMost}
use Rattle.batch_script.proofs.program.write_text.Given as goal

abbrev pub invariant-loop-rest : goal.invariant-loop-rest
invariant-loop-rest g l = record {
  kept : g.K.Device.faults l.sink ≡ g.K.Device.faults l.initial.sink;
  written : (front : List ℕ) × (l.text ≡ front ++ l.rest)
      × ((held : List ℕ) → g.K.Sink.written l.initial.sink ≡ Some held → g.K.Sink.written l.sink ≡ Some (held ++ front))
      × AtMost (length front) g.K.Device.reaches l.initial.sink l.sink;
  can_call : g.K.Device.can_call l.sink;
}

abbrev pub decreases-loop-rest : goal.decreases-loop-rest
decreases-loop-rest g l = length l.rest
