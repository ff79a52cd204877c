-- Worked examples of the definitions, computed.
use Rattle.std.proofs.Common.{◌≡◌, List, [], ◌∷◌, refl}
use Rattle.std.specs.Prelude.{codes}
use Rattle.std.specs.List.{flat_map}
use Rattle.std.specs.Fmt.{digits}
use Rattle.batch_core.specs.State.{empty_state}
use Rattle.batch_core.specs.declared.command.Command.TheVariants.{Push, Pop, Alloc}
use Rattle.batch_core.specs.declared.command.End.TheVariants.{Commit, Abort}
use Rattle.batch_script.specs.Grammar.{Line, all_lines_over}
use Rattle.batch_script.specs.Machine.{reserve, show, batch, replies_over}
use Rattle.batch_script.specs.Reply.{reply_lines}
use Rattle.batch_script.proofs.ShownFacts.{shows}
use Rattle.batch_nest.specs.Nest.{done, then_command, then_inner}
use Rattle.batch_nest.specs.Script.{PlainNestItem, nest_bodies, nest_printing}

-- the lines of the replies to items, if memory is found
abbrev replied : List PlainNestItem → List Line
replied items = flat_map reply_lines (replies_over nest_bodies empty_state items)

-- a nest with an inner batch that is given up
abbrev given_up : PlainNestItem
given_up =
    batch (then_command (Push 1) (then_inner (then_command (Push 2) (then_command (Alloc 5) done)) Abort (then_command (Push 3) done)))
    Commit

-- it is printed line by line
printed : all_lines_over nest_printing (given_up ∷ show ∷ [])
    ≡ codes "begin" ∷ codes "push 1" ∷ codes "begin" ∷ codes "push 2" ∷ codes "alloc 5" ∷ codes "abort" ∷ codes "push 3"
    ∷ codes "commit" ∷ codes "show" ∷ []
unfolding digits
printed = refl

-- what stands outside of an inner abort stays
inner_abort : replied (
    batch (then_command (Push 1) (then_inner (then_command (Push 2) done) Abort (then_command (Push 3) done))) Commit ∷ show ∷ []
    ) ≡ codes "ok" ∷ codes "ok" ∷ codes "committed" ∷ codes "list 1 3" ∷ codes "set" ∷ codes "table" ∷ codes "next 0" ∷ []
unfolding digits
inner_abort = simp shows

-- a bad command refuses the nest, though it stands in a part that is given up
bad_though_given_up : replied (batch (then_inner (then_command Pop done) Abort done) Commit ∷ [])
    ≡ codes "refused: command 1: list is empty" ∷ []
unfolding digits
bad_though_given_up = refl

-- the outer end decides of what inner ones kept
all_given_up : replied (batch (then_inner (then_command (Push 1) done) Commit done) Abort ∷ show ∷ [])
    ≡ codes "aborted" ∷ codes "list" ∷ codes "set" ∷ codes "table" ∷ codes "next 0" ∷ []
unfolding digits
all_given_up = simp shows

-- a nest within the room
within_the_room : replied (
    reserve 3
    ∷ batch (then_command (Push 1) (then_inner (then_command (Push 2) done) Abort (then_command (Push 3) done))) Commit ∷ []
    ) ≡ codes "reserved" ∷ codes "ok" ∷ codes "ok" ∷ codes "committed" ∷ []
unfolding digits
within_the_room = refl
