-- The line of a command, read on its own.
use Rattle.std.proofs.Common.{◌≡◌, ◌≢◌, ℕ, List, [], ◌∷◌, get_or, append-nil, refl, sym, ap, subst, ◌∙◌, inl}
use Rattle.std.specs.Prelude.{Option, Some, None, IfSome, IfNone}
use Rattle.batch_core.specs.declared.command.Command.{Command}
use Rattle.batch_script.specs.Front.{HasFault, IsOneLine}
use Rattle.batch_script.specs.Grammar.{Line, IsValidCommand, command_line, line_of, lines_of, numbers_of, word_of}
use Rattle.batch_script.specs.Reading.{HasNoParts, HasParts}
use Rattle.batch_script.specs.ReadingLaws.{command_facts}
use Rattle.batch_script.proofs.CutFacts.{lines-first}
use Rattle.batch_script.proofs.PartFacts.{line_no_feed}
use Rattle.batch_script.proofs.ReadingFacts.{none_is_command, parts_are_no_command}

-- the line of a command is one line
pub command_one_line : (command : Command ℕ) → IsValidCommand command → IsOneLine (command_line command)
command_one_line command valid =
    let facts = command_facts command in (facts.3, line_no_feed (word_of command) (numbers_of command) facts.1 valid)

-- one line is the first of its lines
first_of_one : (line first : Line) (lines : List Line) → IsOneLine line → lines_of line ≡ first ∷ lines → first ≡ line
first_of_one line first lines one read =
    let whole = lines-first line line [] [] (sym (append-nil line)) one.1 (inl (refl, refl)) one.0 in
    ap (λ l. get_or l 0 []) (sym read ∙ whole)

-- one line with no parts is no command
pub fault_is_no_command : (line : Line) → IsOneLine line → HasFault line → (command : Command ℕ) → IsValidCommand command
    → line ≢ command_line command
fault_is_no_command line one fault =
    none_is_command line (subst HasNoParts (first_of_one line fault.0 fault.1 one fault.2) fault.3)

module _ (line word numbers : List ℕ) (lines : List Line) (one : IsOneLine line) (read : lines_of line ≡ line_of word numbers ∷ lines) where
  -- one line is that of the command whose parts were read of it
  pub read_is_command : (r : Option (Command ℕ)) → IfSome r (λ command. (word ≡ word_of command) × (numbers ≡ numbers_of command))
      → IfSome r (λ command. line ≡ command_line command)
  read_is_command None are = tt
  read_is_command (Some command) are =
      sym (first_of_one line (line_of word numbers) lines one read)
      ∙ (ap (λ w. line_of w numbers) are.0 ∙ ap (λ ns. line_of (word_of command) ns) are.1)

  -- one line of parts that are no command's is no command
  pub read_is_no_command : HasParts (line_of word numbers) word numbers → (r : Option (Command ℕ))
      → IfNone r ((command : Command ℕ) → numbers_of command ≡ numbers → word_of command ≢ word)
      → IfNone r ((command : Command ℕ) → IsValidCommand command → line ≢ command_line command)
  read_is_no_command has None never =
      parts_are_no_command line word numbers
      (subst (λ l. HasParts l word numbers) (first_of_one line (line_of word numbers) lines one read) has) never
  read_is_no_command has (Some command) never = tt
