-- What a line does to what was read of a script, and where reading stops.
use Rattle.std.proofs.Common.{◌≡◌, ◌≢◌, ℕ, false, List, [], ◌∷◌, ◌++◌, refl, sym, ◌∙◌}
use Rattle.std.proofs.Common.{inl, inr, append_assoc, Option, Some, None}
use Rattle.std.specs.Prelude.{codes, IsSome}
use Rattle.std.specs.List.{AllByRecursion}
use Rattle.std.proofs.lemmas.List.{append-nil}
use Rattle.batch_core.specs.declared.command.Command.{Command}
use Rattle.batch_core.specs.declared.command.End.{End}
use Rattle.batch_core.specs.declared.command.End.TheVariants.{Commit}
use Rattle.batch_script.specs.Machine.{ItemOf, PlainItem, reserve, show, batch}
use Rattle.batch_script.specs.Grammar.{Line, IsOpen, IsScript, IsValidCommand, IsWritable}
use Rattle.batch_script.specs.Grammar.{command_line, end_line, lines_of, numbers_of, word_of}
use Rattle.batch_script.specs.Grammar.{Printing, TellsBodies, IsOpenOver, IsScriptOver, IsScriptOfOver, IsValidItemOver}
use Rattle.batch_script.specs.Grammar.{all_lines_over, batch_printing, printed_over}
use Rattle.batch_script.specs.Reading.{AreRead, AreReadOver, HasParts, HasNoParts, first_numbers, first_word, has_space, open_lines_over}
use Rattle.batch_script.specs.ReadingLaws.{AllByRecursion-append, few_numbers, one_word}
use Rattle.batch_script.proofs.LineFacts.{line_of_none}
use Rattle.batch_script.proofs.OpenFacts.{all_lines-append}
use Rattle.batch_script.proofs.PrefixFacts.{GoesOn, HasWhole, StartsItem, begun_has_whole, next_in_batch}
use Rattle.batch_script.proofs.PrefixFacts.{rest-after_items, starts_item, unended}
use Rattle.batch_script.proofs.ScriptFacts.{batches_told, end_word}

module _ {B O : Type 0} (printing : Printing B) (opened : Printing O) where
  -- an item ends with this line
  pub read_item : (items : List (ItemOf B)) (begun : Option O) (lines : List Line) (item : ItemOf B) (line : Line)
      → AreReadOver printing opened items begun lines → IsValidItemOver printing item
      → open_lines_over opened begun ++ line ∷ [] ≡ printed_over printing item
      → AreReadOver printing opened (items ++ item ∷ []) None (lines ++ line ∷ [])
  read_item items begun lines item line was valid printed = record {
    valid_items = AllByRecursion-append (IsValidItemOver printing) items (item ∷ []) was.valid_items (valid, tt);
    valid_open = tt;
    same = rw (was.same, all_lines-append printing items (item ∷ []), ← printed) (simp (append_assoc, append-nil));
  }

  -- what has begun goes on with this line
  pub read_on : (items : List (ItemOf B)) (begun next : O) (lines : List Line) (line : Line)
      → AreReadOver printing opened items (Some begun) lines → opened.is_valid next
      → opened.body_lines next ≡ opened.body_lines begun ++ line ∷ []
      → AreReadOver printing opened items (Some next) (lines ++ line ∷ [])
  read_on items begun next lines line was valid is = record {
    valid_items = was.valid_items;
    valid_open = valid;
    same = rw (was.same, is) (append_assoc (all_lines_over printing items) (open_lines_over opened (Some begun)) (line ∷ []));
  }

  module _ (told : TellsBodies printing) (items : List (ItemOf B)) (lines : List Line) where
    -- the line after these is no first line of an item
    pub stuck_outside : AreReadOver printing opened items None lines → (line : Line) → ¬ StartsItem printing line
        → ¬ IsOpenOver printing (lines ++ line ∷ [])
    stuck_outside was line never goes =
        let apart : all_lines_over printing items ++ (line ∷ goes.1) ≡ all_lines_over printing goes.0 =
        simp (was.same, append_assoc, append-nil) at goes.3 in
        let more = rest-after_items printing told items goes.0 (line ∷ goes.1) was.valid_items goes.2 apart in
        never (starts_item printing line goes.1 more.0 more.2 more.1)

    -- what has begun doesn't go on with it
    pub stuck_inside : (begun : O) → AreReadOver printing opened items (Some begun) lines → (line : Line)
        → ((rest : List Line) → ¬ HasWhole printing (opened.body_lines begun ++ line ∷ rest)) → ¬ IsOpenOver printing (lines ++ line ∷ [])
    stuck_inside begun was line never goes =
        let front = opened.body_lines begun ++ line ∷ goes.1 in
        let apart : all_lines_over printing items ++ codes "begin" ∷ front ≡ all_lines_over printing goes.0 =
        simp (was.same, append_assoc) at goes.3 in
        let more = rest-after_items printing told items goes.0 (codes "begin" ∷ front) was.valid_items goes.2 apart in
        never goes.1 (begun_has_whole printing front more.0 more.2 more.1)

    -- with all lines read, what has begun has no end
    pub begun_is_no_script : (begun : O) → AreReadOver printing opened items (Some begun) lines
        → ¬ HasWhole printing (opened.body_lines begun) → (input : List ℕ) → lines ≡ lines_of input → ¬ IsScriptOver printing input
    begun_is_no_script begun was never input all script =
        let front = codes "begin" ∷ opened.body_lines begun in
        let more = rest-after_items printing told items script.0 front was.valid_items script.1.valid
        (sym was.same ∙ all ∙ script.1.lines) in
        never (begun_has_whole printing (opened.body_lines begun) more.0 more.2 more.1)

  -- with all lines read and nothing begun the input is the script of the items
  pub read_is_script : (items : List (ItemOf B)) (input : List ℕ) → AreReadOver printing opened items None (lines_of input)
      → IsScriptOfOver printing input items
  read_is_script items input was = record { valid = was.valid_items; lines = was.same ∙ append-nil (all_lines_over printing items) }

-- ---- words and numbers

-- the word of an item's first line has no space
first_one_word : {B : Type 0} (item : ItemOf B) → has_space (first_word item) ≡ false
first_one_word (reserve number) = refl
first_one_word show = refl
first_one_word (batch body ending) = refl

-- its numbers are writable if the item is valid
first_writable : {B : Type 0} (printing : Printing B) (item : ItemOf B) → IsValidItemOver printing item
    → AllByRecursion IsWritable (first_numbers item)
first_writable printing (reserve number) valid = (valid, tt)
first_writable printing show valid = tt
first_writable printing (batch body ending) valid = tt

-- a word and numbers that start no item of a script of batches start none of any script
starts_none : {B : Type 0} (word numbers : List ℕ) → ((item : PlainItem) → first_numbers item ≡ numbers → first_word item ≢ word)
    → (item : ItemOf B) → first_numbers item ≡ numbers → first_word item ≢ word
starts_none word numbers never (reserve number) = never (reserve number)
starts_none word numbers never show = never show
starts_none word numbers never (batch body ending) = never (batch [] Commit)

-- so a line of them starts no item
pub parts_start_none : {B : Type 0} (printing : Printing B) (line word numbers : List ℕ) → HasParts line word numbers
    → ((item : PlainItem) → first_numbers item ≡ numbers → first_word item ≢ word) → ¬ StartsItem printing line
parts_start_none printing line word numbers has never starts =
    line_of_none first_word first_numbers first_one_word line word numbers has (starts_none word numbers never) starts.0
    (first_writable printing starts.0 starts.1) starts.2

-- a line that is no word with up to two numbers is no command
pub none_is_command : (line : Line) → HasNoParts line → (command : Command ℕ) → IsValidCommand command → line ≢ command_line command
none_is_command line never command valid same =
    never (word_of command) (numbers_of command) (few_numbers command)
    (record { is_word = one_word command; writable = valid; same = same })

-- a line of a word and numbers that are no command's is no command
pub parts_are_no_command : (line word numbers : List ℕ) → HasParts line word numbers
    → ((command : Command ℕ) → numbers_of command ≡ numbers → word_of command ≢ word)
    → (command : Command ℕ) → IsValidCommand command → line ≢ command_line command
parts_are_no_command = line_of_none word_of numbers_of one_word

-- a word and numbers that are no command and end no batch
parts_go_on_nowhere : (line word numbers : List ℕ) → HasParts line word numbers
    → ((command : Command ℕ) → numbers_of command ≡ numbers → word_of command ≢ word)
    → ((ending : End) → numbers ≡ [] → end_line ending ≢ word) → ¬ GoesOn line
parts_go_on_nowhere line word numbers has never nor (inl one) = parts_are_no_command line word numbers has never one.0 one.1 one.2
parts_go_on_nowhere line word numbers has never nor (inr one) =
    line_of_none end_line (λ ending. []) (λ ending. (end_word ending).0) line word numbers has (λ ending are. nor ending (sym are))
    one.0 tt one.1

-- ---- scripts of batches

-- in a batch only a command or its end goes on
pub stuck_in_batch : (items : List PlainItem) (begun : Option (List (Command ℕ))) (lines : List Line) (line word numbers : List ℕ)
    → IsSome begun → AreRead items begun lines → HasParts line word numbers
    → ((command : Command ℕ) → numbers_of command ≡ numbers → word_of command ≢ word)
    → ((ending : End) → numbers ≡ [] → end_line ending ≢ word) → ¬ IsOpen (lines ++ line ∷ [])
stuck_in_batch items None lines line word numbers some was has never nor = absurd (cc)
stuck_in_batch items (Some commands) lines line word numbers some was has never nor =
    stuck_inside batch_printing batch_printing batches_told items lines commands was line (λ rest whole.
    parts_go_on_nowhere line word numbers has never nor
    (next_in_batch commands whole.body whole.ending line rest whole.rest was.valid_open whole.valid whole.same))

-- with a batch that has begun and not ended the input is no script
pub begun-IsScript : (items : List PlainItem) (begun : Option (List (Command ℕ))) (input : List ℕ) → IsSome begun
    → AreRead items begun (lines_of input) → ¬ IsScript input
begun-IsScript items None input some was = absurd (cc)
begun-IsScript items (Some commands) input some was =
    begun_is_no_script batch_printing batch_printing batches_told items (lines_of input) commands was
    (λ whole. unended commands whole.body whole.ending whole.rest was.valid_open whole.same) input refl
