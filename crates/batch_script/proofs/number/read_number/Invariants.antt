use Rattle.std.proofs.Common.{◌≡◌, ℕ, ◌-◌, ◌^◌, ◌<◌, ◌≤◌, length, take, get_or}
use Rattle.std.specs.Int.{IsInRange}
use Rattle.std.specs.Str.Parse.{digits_value}
use Rattle.batch_script.proofs.number.read_number.Given as goal

abbrev pub invariant-loop-digit : goal.invariant-loop-digit
invariant-loop-digit l = record {
  inside : l.end ≤ length l.text;
  value : l.number ≡ digits_value 10 (take l.end l.text);
  small : l.number < 2 ^ 64;
  each : (k : ℕ) → k < l.end → IsInRange 48 57 (get_or l.text k 0);
}

abbrev pub decreases-loop-digit : goal.decreases-loop-digit
decreases-loop-digit l = length l.text - l.end
