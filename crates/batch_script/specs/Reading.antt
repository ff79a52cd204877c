-- What the parser has read so far, as plain items and lines.
use Rattle.std.specs.Prelude.{⊤, ◌≡◌, ◌≢◌, ℕ, slice_index, ◌<◌, ◌≤◌, Bool, false, nat_eq, List, [], ◌∷◌, ◌++◌, length, map, codes}
use Rattle.std.specs.Prelude.{Option, Some, None, IsSome, option_map}
use Rattle.std.specs.List.{AllByRecursion, list_any}
use Rattle.batch_core.specs.declared.command.Command.{Command}
use Rattle.batch_core.specs.declared.command.End.{End}
use Rattle.batch_core.specs.declared.command.End.TheVariants.{Commit}
use Rattle.batch_script.specs.declared.item.Item.{Item}
use Rattle.batch_script.specs.declared.item.Item.TheVariants.{Reserve, Show, Batch}
use Rattle.batch_script.specs.declared.line.Numbers.{Numbers}
use Rattle.batch_script.specs.declared.line.Numbers.TheVariants.{Zero, One, Two}
use Rattle.batch_script.specs.declared.parser.Reading.{Reading}
use Rattle.batch_script.specs.declared.parser.Start.{Start}
use Rattle.batch_script.specs.declared.parser.Start.TheVariants.{Reserve as StartsReserve, Show as StartsShow, Begin as StartsBatch}
use Rattle.batch_script.specs.Machine.{ItemOf, PlainItem, reserve, show, batch}
use Rattle.batch_script.specs.Grammar.{Line, IsWritable, line_of, lines_of}
use Rattle.batch_script.specs.Grammar.{Printing, batch_printing, IsOpenOver, IsValidItemOver, all_lines_over, ended_lines}

-- whether a space stands in the text
abbrev pub has_space : List ℕ → Bool
has_space = list_any (nat_eq 32)

-- the numbers of a line as a list
abbrev pub listed : Numbers → List ℕ
listed Zero = []
listed (One first) = first ∷ []
listed (Two first second) = first ∷ second ∷ []

-- there is a digit, and no zero before others
pub record BeginsNumber (digits : List ℕ) : Type 0 where
  pub some : 0 < length digits
  pub leading : 1 < length digits → slice_index digits 0 ≢ 48

-- the line is this word and these numbers
pub record HasParts (line word numbers : List ℕ) : Type 0 where
  pub is_word : has_space word ≡ false
  pub writable : AllByRecursion IsWritable numbers
  pub same : line ≡ line_of word numbers

-- the line is no word with up to two numbers
abbrev pub HasNoParts : Line → Type 0
HasNoParts line = (word numbers : List ℕ) → length numbers ≤ 2 → ¬ HasParts line word numbers

-- the line is a word with up to two numbers
abbrev pub HasSomeParts : Line → Type 0
HasSomeParts line = (word : List ℕ) × (numbers : List ℕ) × (length numbers ≤ 2) × HasParts line word numbers

-- so is each line of a valid body
abbrev pub HasPartsThroughout : {B : Type 0} → Printing B → Type 0
HasPartsThroughout {B} printing = (body : B) → printing.is_valid body → AllByRecursion HasSomeParts (printing.body_lines body)

-- the word of the first line of an item
abbrev pub first_word : {B : Type 0} → ItemOf B → List ℕ
first_word (reserve number) = codes "reserve"
first_word show = codes "show"
first_word (batch body ending) = codes "begin"

-- the numbers of that line
abbrev pub first_numbers : {B : Type 0} → ItemOf B → List ℕ
first_numbers (reserve number) = number ∷ []
first_numbers show = []
first_numbers (batch body ending) = []

-- ---- what takes lines, whatever it makes of them

module _ {R : Type 0} where
  -- if it had taken lines so, it takes a line of this word and these numbers behind them
  abbrev pub TakesLineOver : (R → List Line → Type 0) → (R → List Line → Type 0) → R → R → List ℕ → List ℕ → Type 0
  TakesLineOver Had Has old new word numbers =
      (lines : List Line) (line : Line) → HasParts line word numbers → Had old lines → Has new (lines ++ line ∷ [])

  -- the input has a first line, and if it had taken lines, it takes this one behind them and leaves the others
  abbrev pub TakesFirstLine : (R → List Line → Type 0) → R → R → List ℕ → List ℕ → Type 0
  TakesFirstLine Has old new input later =
      (line : Line) × (lines_of input ≡ line ∷ lines_of later) × ((lines : List Line) → Has old lines → Has new (lines ++ line ∷ []))

module _ {B R : Type 0} (printing : Printing B) (Had : R → List Line → Type 0) (old : R) where
  -- if it had taken lines so, no line of this word and these numbers goes on behind them
  abbrev pub RefusesLineOver : List ℕ → List ℕ → Type 0
  RefusesLineOver word numbers =
      (lines : List Line) (line : Line) → HasParts line word numbers → Had old lines → ¬ IsOpenOver printing (lines ++ line ∷ [])

  -- the input has a first line, and if it had taken lines, no script goes on with this one behind them
  abbrev pub RefusesFirstLine : List ℕ → Type 0
  RefusesFirstLine input =
      (line : Line) × (later : List Line) × (lines_of input ≡ line ∷ later)
      × ((lines : List Line) → Had old lines → ¬ IsOpenOver printing (lines ++ line ∷ []))

-- ---- what was read, whatever the bodies of items are

-- What has begun and not ended is printed as lines behind the one that begins it, as bodies are, and may be valid.
module _ {O : Type 0} (opened : Printing O) where
  -- the lines of what has begun, if there is such
  abbrev pub open_lines_over : Option O → List Line
  open_lines_over None = []
  open_lines_over (Some begun) = codes "begin" ∷ opened.body_lines begun

  -- if there is such, it is valid
  abbrev pub IsValidOpenOver : Option O → Type 0
  IsValidOpenOver None = ⊤
  IsValidOpenOver (Some begun) = opened.is_valid begun

module _ {B O : Type 0} (printing : Printing B) (opened : Printing O) where
  -- these lines are those of the items, followed by those of what has begun
  pub record AreReadOver (items : List (ItemOf B)) (begun : Option O) (lines : List Line) : Type 0 where
    pub valid_items : AllByRecursion (IsValidItemOver printing) items
    pub valid_open : IsValidOpenOver opened begun
    pub same : lines ≡ all_lines_over printing items ++ open_lines_over opened begun

  -- what has begun and is valid goes on to a valid body and its end
  abbrev pub CanEnd : Type 0
  CanEnd = (begun : O) → opened.is_valid begun → (body : B) × (ending : End) × (rest : List Line)
      × printing.is_valid body × (opened.body_lines begun ++ rest ≡ ended_lines printing body ending)

-- ---- scripts of batches

-- an item of the parser as a plain item
abbrev pub plain_item : Item → PlainItem
plain_item (Reserve number) = reserve number
plain_item Show = show
plain_item (Batch read) = batch read.commands.items read.end

-- items of the parser as plain items
abbrev pub plain_items : List Item → List PlainItem
plain_items = map plain_item

-- these lines are those of the items, followed by those of the batch that has begun
abbrev pub AreRead : List PlainItem → Option (List (Command ℕ)) → List Line → Type 0
AreRead = AreReadOver batch_printing batch_printing

-- the commands of the batch that has begun, if there is one
abbrev pub begun_in : Reading → Option (List (Command ℕ))
begun_in reading = option_map (λ commands. commands.items) reading.begun

-- an item that begins so
abbrev pub started : Start → PlainItem
started (StartsReserve number) = reserve number
started StartsShow = show
started StartsBatch = batch [] Commit

-- the reading has taken these lines
abbrev pub HasRead : Reading → List Line → Type 0
HasRead reading lines = AreRead (plain_items reading.items.items) (begun_in reading) lines

-- so it has, and no batch has begun
abbrev pub IsOutside : Reading → List Line → Type 0
IsOutside reading lines = (reading.begun ≡ None) × AreRead (plain_items reading.items.items) None lines

-- so it has, and a batch has begun
abbrev pub IsInside : Reading → List Line → Type 0
IsInside reading lines = IsSome (begun_in reading) × HasRead reading lines

-- if the reading had taken lines so, it takes a line of this word and these numbers behind them
abbrev pub TakesLine : (Reading → List Line → Type 0) → Reading → Reading → List ℕ → List ℕ → Type 0
TakesLine Had = TakesLineOver Had HasRead

-- if it had taken lines so, no line of this word and these numbers goes on behind them
abbrev pub RefusesLine : (Reading → List Line → Type 0) → Reading → List ℕ → List ℕ → Type 0
RefusesLine = RefusesLineOver batch_printing
