-- Nests and batches of the same course.
use Rattle.std.proofs.Common.{◌≡◌, max, List, [], ◌∷◌, ◌++◌, length, refl, sym, ap, subst, ◌∙◌, append_assoc, arith}
use Rattle.batch_core.specs.State.{Contents}
use Rattle.batch_core.specs.Command.{effect_of, records_of}
use Rattle.batch_core.specs.Course.{led_by, batch_course}
use Rattle.batch_core.specs.declared.command.Command.{Command}
use Rattle.batch_core.specs.declared.command.End.TheVariants.{Commit, Abort}
use Rattle.batch_nest.specs.declared.nest.NestLine.{NestLine}
use Rattle.batch_nest.specs.declared.nest.NestLine.TheVariants.{Command as CommandLine, Begin as BeginLine}
use Rattle.batch_nest.specs.declared.nest.NestLine.TheVariants.{Commit as CommitLine, Abort as AbortLine}
use Rattle.batch_nest.specs.Laws.{commands_among, plain_lines, AllCommitted, WithoutInnerIsBatch, AllCommittedIsPlain, InnerAbortRestores}
use Rattle.batch_nest.specs.Nest.{Body, done, then_command, then_inner, nest_lines, followed_by, nest_course}
use Rattle.batch_nest.specs.Nest.{begin_lines, command_lines, nest_places}
use Rattle.batch_nest.proofs.ShapeFacts.{heads}

module _ {X : Type 0} where
  pub same_command : (a b : Command X) → ◌≡◌ {A = NestLine X} (CommandLine a) (CommandLine b) → a ≡ b
  same_command a b same = cc

  -- a nest without inner lines has the course of the batch of its commands
  plain_course : (contents : Contents X) (commands : List (Command X)) (body : Body X) → plain_lines commands ≡ nest_lines body
      → nest_course contents body ≡ batch_course contents commands
  plain_course contents [] done is = refl
  plain_course contents (command ∷ commands) done is = absurd (cc)
  plain_course contents [] (then_command other later) is = absurd (cc)
  plain_course contents (command ∷ commands) (then_command other later) is =
      let same = heads (CommandLine command) (CommandLine other) (plain_lines commands) (nest_lines later) is in
      ap (λ k. nest_course contents (then_command k later)) (sym (same_command command other same.0))
      ∙ ap (led_by contents command) (plain_course (effect_of contents command) commands later same.1)
  plain_course contents [] (then_inner inner ending later) is = absurd (cc)
  plain_course contents (command ∷ commands) (then_inner inner ending later) is =
      let differ = (heads (CommandLine command) BeginLine (plain_lines commands) _ is).0 in absurd (cc)

  plain_lines-commands : (commands : List (Command X)) → command_lines (plain_lines commands) ≡ length commands
  plain_lines-commands [] = refl
  plain_lines-commands (command ∷ commands) = omega (arith, plain_lines-commands commands)

  plain_lines-begins : (commands : List (Command X)) → begin_lines (plain_lines commands) ≡ 0
  plain_lines-begins [] = refl
  plain_lines-begins (command ∷ commands) = plain_lines-begins commands

  -- it needs a place per command
  plain_places : (commands : List (Command X)) (body : Body X) → plain_lines commands ≡ nest_lines body
      → nest_places body ≡ length commands
  plain_places commands body is =
      let counted = plain_lines-commands commands in
      let none = plain_lines-begins commands in
      subst (λ lines. max (command_lines lines) (begin_lines lines) ≡ length commands) is (omega (arith, counted, none))

  pub without_inner : WithoutInnerIsBatch X
  without_inner contents commands body is = (plain_course contents commands body is, plain_places commands body is)

  -- a batch of two parts has the course of the one and then of the other
  batch_in_two : (contents : Contents X) (first second : List (Command X)) → batch_course contents (first ++ second)
      ≡ followed_by (batch_course contents first) (batch_course (batch_course contents first).after second)
  batch_in_two contents [] second = refl
  batch_in_two contents (command ∷ first) second =
      let one = batch_course (effect_of contents command) first in
      let other = batch_course one.after second in
      ap (led_by contents command) (batch_in_two (effect_of contents command) first second)
      ∙ (λ i. record {
        stands = record { contents = contents; command = command } ∷ (one.stands ++ other.stands);
        records = sym (append_assoc (records_of contents command) one.records other.records) i;
        after = other.after;
      })

  pub among-append : (lines more : List (NestLine X)) → commands_among (lines ++ more) ≡ commands_among lines ++ commands_among more
  among-append [] more = refl
  among-append (CommandLine command ∷ lines) more = ap (λ l. command ∷ l) (among-append lines more)
  among-append (BeginLine ∷ lines) more = among-append lines more
  among-append (CommitLine ∷ lines) more = among-append lines more
  among-append (AbortLine ∷ lines) more = among-append lines more

  pub among-count : (lines : List (NestLine X)) → length (commands_among lines) ≡ command_lines lines
  among-count [] = refl
  among-count (CommandLine command ∷ lines) = omega (arith, among-count lines)
  among-count (BeginLine ∷ lines) = among-count lines
  among-count (CommitLine ∷ lines) = among-count lines
  among-count (AbortLine ∷ lines) = among-count lines

  -- a body whose inner bodies are all committed has the course of the batch of its commands
  committed_course : (contents : Contents X) (body : Body X) → AllCommitted body
      → nest_course contents body ≡ batch_course contents (commands_among (nest_lines body))
  committed_course contents done all = refl
  committed_course contents (then_command command later) all =
      ap (led_by contents command) (committed_course (effect_of contents command) later all)
  committed_course contents (then_inner inner Commit later) all =
      let within = commands_among (nest_lines inner) in
      let after = commands_among (nest_lines later) in
      let same = committed_course contents inner all.0 in
      (λ i. followed_by (same i) (nest_course (same i).after later))
      ∙ ap (followed_by (batch_course contents within)) (committed_course (batch_course contents within).after later all.1)
      ∙ sym (batch_in_two contents within after)
      ∙ ap (batch_course contents) (sym (among-append (nest_lines inner) (CommitLine ∷ nest_lines later)))
  committed_course contents (then_inner inner Abort later) all = absurd all

  -- a nest whose inner bodies are all committed has the course of the nest without the lines that begin and end them
  pub all_committed : AllCommittedIsPlain X
  all_committed contents body plain all is =
      let commands = commands_among (nest_lines body) in
      let counted = among-count (nest_lines body) in
      let places = plain_places commands plain is in
      (committed_course contents body all ∙ sym (plain_course contents commands plain is), omega (arith, counted, places))

  -- an inner body that ends in abort leaves what was held at its start
  pub inner_abort : InnerAbortRestores X
  inner_abort contents inner later = (refl, refl)
