use Rattle.std.proofs.Common.{◌≡◌, ◌++◌, ◌-◌, ◌≤◌, length, reverse, map}
use Rattle.wic_error.specs.Chain.{numbered_lines}
use Rattle.wic_error.proofs.report.push_numbered.Given as goal

-- what was put, and what is still to be put, is all of it
abbrev pub invariant-loop-cause : goal.invariant-loop-cause
invariant-loop-cause g l =
    (length l.rest ≤ length l.causes)
    × (l.text.bytes ++ numbered_lines (length l.causes - length l.rest) (map g.K.Kind.text (reverse l.rest))
    ≡ l.initial.text.bytes ++ numbered_lines 0 (map g.K.Kind.text (reverse l.causes)))

abbrev pub decreases-loop-cause : goal.decreases-loop-cause
decreases-loop-cause g l = length l.rest
