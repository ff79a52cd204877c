use Rattle.std.proofs.Common.{◌≡◌, ◌∷◌, ◌++◌}
use Rattle.std.specs.List.{flat_map}
use Rattle.batch_script.specs.Reply.{pair_text}
use Rattle.batch_script.proofs.reply.push_table.Given as goal

-- what was written, and what is still to be written, is all of it
abbrev pub invariant-loop-id : goal.invariant-loop-id
invariant-loop-id l =
    l.text.bytes ++ flat_map (λ pair. 32 ∷ pair_text pair) l.id-iterator
    ≡ l.initial.text.bytes ++ flat_map (λ pair. 32 ∷ pair_text pair) l.initial.id-iterator
