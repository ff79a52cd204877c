use Rattle.std.proofs.Common.{◌≡◌, ◌++◌, length, reverse, map}
use Rattle.std.specs.Prelude.{codes}
use Rattle.std.specs.List.{flat_map}
use Rattle.wic_error.proofs.report.push_joined.Given as goal

-- what was put, and what is still to be put, is all of it
abbrev pub invariant-loop-cause : goal.invariant-loop-cause
invariant-loop-cause g l =
    l.text.bytes ++ flat_map (λ cause. codes ": " ++ cause) (map g.K.Kind.text (reverse l.rest))
    ≡ l.initial.text.bytes ++ flat_map (λ cause. codes ": " ++ cause) (map g.K.Kind.text (reverse l.causes))

abbrev pub decreases-loop-cause : goal.decreases-loop-cause
decreases-loop-cause g l = length l.rest
