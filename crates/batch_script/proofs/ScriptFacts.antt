-- The lines of a script can be read as items in one way alone.
use Rattle.std.proofs.Common.{◌≡◌, ℕ, Bool, true, false, ◌||◌, List, [], ◌∷◌, ◌++◌, get_or, refl, sym, ap, arith}
use Rattle.std.specs.Prelude.{codes, nat_eq, bytes_eq, if◌then◌else◌}
use Rattle.std.specs.List.{AllByRecursion}
use Rattle.std.proofs.lemmas.Bool.Decides.{nat_tests}
use Rattle.batch_core.specs.declared.command.Command.{Command}
use Rattle.batch_core.specs.declared.command.Command.TheVariants.{Push, Pop, Set, Alloc, Free, Put, Insert, Remove, Truncate}
use Rattle.batch_core.specs.declared.command.End.{End}
use Rattle.batch_core.specs.declared.command.End.TheVariants.{Commit, Abort}
use Rattle.batch_script.specs.Machine.{ItemOf, reserve, show, batch}
use Rattle.batch_script.specs.Grammar.{Line, line_of, word_of, numbers_of, command_line, end_line, IsValidCommand}
use Rattle.batch_script.specs.Grammar.{Printing, TellsBodies, ended_lines, printed_over, IsValidItemOver, all_lines_over, batch_printing}
use Rattle.batch_script.specs.Laws.{LinesTellItemsOver}
use Rattle.batch_script.specs.Reading.{has_space}
use Rattle.batch_script.specs.ReadingLaws.{one_word}
use Rattle.batch_script.proofs.LineFacts.{known_by_line, same_line}

-- the command of a word and its numbers
abbrev pub command_from : List ℕ → List ℕ → Command ℕ
command_from word numbers =
    if bytes_eq word (codes "push") then Push (get_or numbers 0 0)
    else if bytes_eq word (codes "pop") then Pop
    else if bytes_eq word (codes "set") then Set (get_or numbers 0 0) (get_or numbers 1 0)
    else if bytes_eq word (codes "alloc") then Alloc (get_or numbers 0 0)
    else if bytes_eq word (codes "free") then Free (get_or numbers 0 0)
    else if bytes_eq word (codes "put") then Put (get_or numbers 0 0) (get_or numbers 1 0)
    else if bytes_eq word (codes "insert") then Insert (get_or numbers 0 0)
    else if bytes_eq word (codes "remove") then Remove (get_or numbers 0 0)
    else Truncate (get_or numbers 0 0)

-- whether a word begins or ends a batch
abbrev pub is_bound : List ℕ → Bool
is_bound word = bytes_eq word (codes "begin") || (bytes_eq word (codes "commit") || bytes_eq word (codes "abort"))

-- a command is made again of its word and its numbers, and its word begins and ends no batch
pub command_known : (command : Command ℕ) → (command_from (word_of command) (numbers_of command) ≡ command)
    × (is_bound (word_of command) ≡ false)
command_known (Push value) = (refl, refl)
command_known Pop = (refl, refl)
command_known (Set at value) = (refl, refl)
command_known (Alloc value) = (refl, refl)
command_known (Free id) = (refl, refl)
command_known (Put id value) = (refl, refl)
command_known (Insert number) = (refl, refl)
command_known (Remove number) = (refl, refl)
command_known (Truncate kept) = (refl, refl)

-- so it is known by its line
pub same_command : (command other : Command ℕ) → IsValidCommand command → IsValidCommand other → command_line command ≡ command_line other
    → command ≡ other
same_command = known_by_line word_of numbers_of one_word command_from (λ command. (command_known command).0)

-- the line that ends a batch has no space, and is a word that ends a batch
pub end_word : (ending : End) → (has_space (end_line ending) ≡ false) × (is_bound (end_line ending) ≡ true)
end_word Commit = (refl, refl)
end_word Abort = (refl, refl)

-- the line of a command ends no batch
pub command_is_no_end : (command : Command ℕ) (ending : End) → IsValidCommand command → command_line command ≡ end_line ending → ⊥
command_is_no_end command ending valid same =
    let parts = same_line (word_of command) (end_line ending) (numbers_of command) [] (one_word command)
    (end_word ending).0 valid tt same in
    let not_end = (command_known command).1 in
    let ends = (end_word ending).1 in
    let words = ap is_bound parts.0 in
    cc

itself : (number : ℕ) → nat_eq number number ≡ true
itself number = grind (arith, nat_tests)

-- the first line, if there is one
abbrev pub first_line : List Line → Line
first_line lines = get_or lines 0 []

-- two lines that begin with different bytes are different
pub apart : (line other : Line) → nat_eq (get_or line 0 0) (get_or other 0 0) ≡ false → line ≡ other → ⊥
apart line other differ same =
    let heads = ap (λ l. nat_eq (get_or l 0 0) (get_or other 0 0)) same in
    let equal = itself (get_or other 0 0) in
    cc

-- an end is known by its line
pub same_end : (ending other : End) → end_line ending ≡ end_line other → ending ≡ other
same_end Commit Commit same = refl
same_end Commit Abort same = absurd (apart _ _ refl same)
same_end Abort Commit same = absurd (apart _ _ refl same)
same_end Abort Abort same = refl

-- the lines of a batch behind its first line, and what follows them
abbrev pub batch_lines : List (Command ℕ) → End → List Line → List Line
batch_lines commands ending rest = ended_lines batch_printing commands ending ++ rest

-- two batches that begin the same lines are the same, and are followed by the same
same_batch : (commands others : List (Command ℕ)) (ending other : End) (rest more : List Line) → AllByRecursion IsValidCommand commands
    → AllByRecursion IsValidCommand others → batch_lines commands ending rest ≡ batch_lines others other more
    → (commands ≡ others) × (ending ≡ other) × (rest ≡ more)
same_batch [] [] ending other rest more valid sound same = (refl, same_end ending other (cc), cc)
same_batch [] (second ∷ others) ending other rest more valid sound same =
    let heads : command_line second ≡ end_line ending = cc in absurd (command_is_no_end second ending sound.0 heads)
same_batch (first ∷ commands) [] ending other rest more valid sound same =
    let heads : command_line first ≡ end_line other = cc in absurd (command_is_no_end first other valid.0 heads)
same_batch (first ∷ commands) (second ∷ others) ending other rest more valid sound same =
    let heads : command_line first ≡ command_line second = cc in
    let tails : batch_lines commands ending rest ≡ batch_lines others other more = cc in
    let firsts : first ≡ second = same_command first second valid.0 sound.0 heads in
    let later = same_batch commands others ending other rest more valid.1 sound.1 tails in
    let commands_same : commands ≡ others = later.0 in
    (cc, later.1, later.2)

-- so the lines of a batch tell it from every other one
pub batches_told : TellsBodies batch_printing
batches_told commands others ending end rest more = same_batch commands others ending end rest more

-- the lines of an item, and what follows them, are never none
pub no_lines_left : {B : Type 0} (printing : Printing B) (item : ItemOf B) (rest : List Line)
    → [] ≡ printed_over printing item ++ rest → ⊥
no_lines_left printing (reserve number) rest same = let bad : _ = same in cc
no_lines_left printing show rest same = let bad : _ = same in cc
no_lines_left printing (batch body ending) rest same = let bad : _ = same in cc

module _ {B : Type 0} (printing : Printing B) (told : TellsBodies printing) where
  -- two items that begin the same lines are the same, and are followed by the same
  pub same_item : (item other : ItemOf B) (rest more : List Line) → IsValidItemOver printing item → IsValidItemOver printing other
      → printed_over printing item ++ rest ≡ printed_over printing other ++ more → (item ≡ other) × (rest ≡ more)
  same_item (reserve number) (reserve amount) rest more valid sound same =
      let lines : line_of (codes "reserve") (number ∷ []) ≡ line_of (codes "reserve") (amount ∷ []) = cc in
      let parts = same_line (codes "reserve") (codes "reserve") (number ∷ []) (amount ∷ []) refl refl (valid, tt) (sound, tt) lines in
      let numbers : number ∷ [] ≡ amount ∷ [] = parts.1 in
      (cc, cc)
  same_item (reserve number) show rest more valid sound same = absurd (apart _ _ refl (ap first_line same))
  same_item (reserve number) (batch other end) rest more valid sound same = absurd (apart _ _ refl (ap first_line same))
  same_item show (reserve amount) rest more valid sound same = absurd (apart _ _ refl (ap first_line same))
  same_item show show rest more valid sound same = (refl, cc)
  same_item show (batch other end) rest more valid sound same = absurd (apart _ _ refl (ap first_line same))
  same_item (batch body ending) (reserve amount) rest more valid sound same = absurd (apart _ _ refl (ap first_line same))
  same_item (batch body ending) show rest more valid sound same = absurd (apart _ _ refl (ap first_line same))
  same_item (batch body ending) (batch other end) rest more valid sound same =
      let tails : ended_lines printing body ending ++ rest ≡ ended_lines printing other end ++ more = cc in
      let parts = told body other ending end rest more valid sound tails in
      let bodies : body ≡ other = parts.0 in
      let ends : ending ≡ end = parts.1 in
      (cc, parts.2)

  -- valid items that are printed alike, line for line, are the same items
  pub one_script : LinesTellItemsOver printing
  one_script [] [] valid sound same = refl
  one_script [] (other ∷ others) valid sound same = absurd (no_lines_left printing other (all_lines_over printing others) same)
  one_script (item ∷ items) [] valid sound same = absurd (no_lines_left printing item (all_lines_over printing items) (sym same))
  one_script (item ∷ items) (other ∷ others) valid sound same =
      let parts = same_item item other (all_lines_over printing items) (all_lines_over printing others) valid.0 sound.0 same in
      let first : item ≡ other = parts.0 in
      let later : items ≡ others = one_script items others valid.1 sound.1 parts.1 in
      cc
