use Rattle.std.proofs.Common.{◌≡◌, ◌∷◌, ◌++◌, drop}
use Rattle.std.specs.List.{flat_map}
use Rattle.std.specs.Fmt.{decimal}
use Rattle.batch_script.proofs.reply.push_list.Given as goal

-- what was written, and what is still to be written, is all of it
abbrev pub invariant-loop-value : goal.invariant-loop-value
invariant-loop-value l =
    l.text.bytes ++ flat_map (λ value. 32 ∷ decimal value) (drop l.value-index l.list)
    ≡ l.initial.text.bytes ++ flat_map (λ value. 32 ∷ decimal value) l.list
