use Rattle.std.proofs.Common.{◌≡◌, List, ◌++◌, length, reverse, None, ◌==◌}
use Rattle.std.specs.List.{find}
use Rattle.wic_error.proofs.repr.newest_with.Given as goal

-- none of the links that were passed has the number
abbrev pub invariant-loop-link : goal.invariant-loop-link
invariant-loop-link g l =
    (passed : List _) × (l.links ≡ l.rest ++ passed) × (find (λ k. g.K.Kind.number k == l.number) (reverse passed) ≡ None)

abbrev pub decreases-loop-link : goal.decreases-loop-link
decreases-loop-link g l = length l.rest
