use Rattle.std.proofs.Common.{◌≡◌, ◌∷◌, ◌++◌}
use Rattle.std.specs.List.{flat_map}
use Rattle.std.specs.Fmt.{decimal}
use Rattle.batch_script.proofs.reply.push_set.Given as goal

-- what was written, and what is still to be written, is all of it
abbrev pub invariant-loop-member : goal.invariant-loop-member
invariant-loop-member l =
    l.text.bytes ++ flat_map (λ member. 32 ∷ decimal member) l.member-iterator
    ≡ l.initial.text.bytes ++ flat_map (λ member. 32 ∷ decimal member) l.initial.member-iterator
