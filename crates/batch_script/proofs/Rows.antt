-- Worked examples of the definitions, computed.
use Rattle.std.proofs.Common.{◌≡◌, List, [], ◌∷◌, refl, inr}
use Rattle.std.specs.Prelude.{codes}
use Rattle.std.specs.Fmt.{digits}
use Rattle.std.specs.FinMap.{empty, insert}
use Rattle.std.specs.FinSet.{empty as no_members, insert as with_member}
use Rattle.batch_core.specs.State.{empty_state, no_contents}
use Rattle.batch_core.specs.declared.command.Command.TheVariants.{Push, Pop, Set, Insert, Remove, Truncate}
use Rattle.batch_core.specs.declared.command.End.TheVariants.{Commit, Abort}
use Rattle.batch_script.specs.Machine.{PlainItem, Run, reserve, show, batch, no_memory, plain_step, shown_of}
use Rattle.batch_script.specs.Generated.{draw, drawn_command, generated}
use Rattle.batch_script.specs.Grammar.{Line, command_line, lines_of, all_lines}
use Rattle.batch_script.specs.Reply.{reply_lines}
use Rattle.batch_script.proofs.ShownFacts.{shows}

-- the lines of the reply to an item on its own, if memory is found
abbrev replied : PlainItem → List Line
replied item = reply_lines (plain_step empty_state item).0

-- the empty input is the script of no items, and a line feed alone is one empty line
empty_input : lines_of [] ≡ []
empty_input = refl

one_line_feed : lines_of (10 ∷ []) ≡ [] ∷ []
one_line_feed = refl

-- with and without the last line feed
push_lines : lines_of (codes "begin\npush 7\ncommit\n") ≡ codes "begin" ∷ codes "push 7" ∷ codes "commit" ∷ []
push_lines = refl

push_lines_unended : lines_of (codes "begin\npush 7\ncommit") ≡ codes "begin" ∷ codes "push 7" ∷ codes "commit" ∷ []
push_lines_unended = refl

-- what items are printed as
set_printed : command_line (Set 10 0) ≡ codes "set 10 0"
unfolding digits
set_printed = refl

items_printed : all_lines (reserve 8 ∷ show ∷ batch (Push 7 ∷ Pop ∷ []) Abort ∷ [])
    ≡ codes "reserve 8" ∷ codes "show" ∷ codes "begin" ∷ codes "push 7" ∷ codes "pop" ∷ codes "abort" ∷ []
unfolding digits
items_printed = refl

-- what they are answered
cut_short : replied (batch (Push 1 ∷ Push 2 ∷ Push 3 ∷ Truncate 1 ∷ Truncate 1 ∷ []) Commit)
    ≡ codes "ok" ∷ codes "ok" ∷ codes "ok" ∷ codes "cut 2" ∷ codes "cut 0" ∷ codes "committed" ∷ []
unfolding digits
cut_short = refl

third_is_bad : replied (batch (Push 7 ∷ Pop ∷ Pop ∷ []) Commit) ≡ codes "refused: command 3: list is empty" ∷ []
unfolding digits
third_is_bad = refl

bad_though_aborted : replied (batch (Pop ∷ []) Abort) ≡ codes "refused: command 1: list is empty" ∷ []
unfolding digits
bad_though_aborted = refl

too_large : replied (batch (Insert 4294967296 ∷ []) Commit) ≡ codes "refused: command 1: number is too large" ∷ []
unfolding digits
too_large = refl

no_such_room : replied (reserve 4294967295) ≡ codes "refused: reserve: number is too large" ∷ []
no_such_room = refl

greatest_room : replied (reserve 4294967294) ≡ codes "reserved" ∷ []
greatest_room = refl

-- contents that are known are shown by computing
few_are_shown : reply_lines (shown_of (record no_contents {
  list = 7 ∷ [];
  set = with_member (with_member no_members 9) 3;
  live = insert (insert empty 1 12) 0 5;
})) ≡ codes "list 7" ∷ codes "set 3 9" ∷ codes "table 0=5 1=12" ∷ codes "next 0" ∷ []
unfolding digits
few_are_shown = simp shows

-- a batch that doesn't fit the room may be refused for memory: with no room any but the empty one
refused_for_memory : Run empty_state (batch (Push 7 ∷ []) Commit ∷ []) (no_memory ∷ [])
refused_for_memory = (empty_state, inr ((λ fits. elim (fits.few) [ ]), refl, refl), tt)

-- what is made of the seed 0: a script with no batches, the first draw, and the first command
no_batches : generated 0 0 ≡ reserve 4096 ∷ []
no_batches = refl

first_draw : draw 0 0 ≡ 167951807
first_draw = refl

first_command : drawn_command 0 ≡ Remove 1800
first_command = refl
