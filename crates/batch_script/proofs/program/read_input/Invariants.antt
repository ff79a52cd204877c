use Rattle.std.proofs.Common.{◌≡◌, ◌≤◌, ◌-◌, ◌++◌, List, ℕ, length, Some}
use Rattle.batch_script.specs.Device.{AtMost}
use Rattle.batch_script.specs.declared.program.TheConstants.{INPUT_LIMIT}
use Rattle.batch_script.proofs.program.read_input.Given as goal

abbrev pub invariant-loop-bytes : goal.invariant-loop-bytes
invariant-loop-bytes g l = record {
  kept : g.S.Device.faults l.source ≡ g.S.Device.faults l.initial.source;
  within : length l.bytes.items ≤ INPUT_LIMIT;
  piece : length l.piece ≡ 4096;
  left : (input : List ℕ) → g.S.Source.left l.initial.source ≡ Some input
      → (rest : List ℕ) × (g.S.Source.left l.source ≡ Some rest) × (l.bytes.items ++ rest ≡ input);
  reads : AtMost (length l.bytes.items) g.S.Device.reaches l.initial.source l.source;
  can_call : g.S.Device.can_call l.source;
}

abbrev pub decreases-loop-bytes : goal.decreases-loop-bytes
decreases-loop-bytes g l = INPUT_LIMIT - length l.bytes.items
