-- Which inputs are scripts: the lines of an input against the lines that items are printed as.
use Rattle.std.specs.Prelude.{⊤, ◌≡◌, ◌⊎◌, ℕ, ◌+◌, ◌^◌, ◌<◌, ◌≤◌, ◌==◌, if◌then◌else◌, List, [], ◌∷◌, ◌++◌, length, take, map, codes}
use Rattle.std.specs.List.{AllByRecursion, flat_map, join_with_byte}
use Rattle.std.specs.Fmt.{decimal}
use Rattle.batch_core.specs.declared.command.Command.{Command}
use Rattle.batch_core.specs.declared.command.Command.TheVariants.{Push, Pop, Set, Alloc, Free, Put, Insert, Remove, Truncate}
use Rattle.batch_core.specs.declared.command.End.{End}
use Rattle.batch_core.specs.declared.command.End.TheVariants.{Commit, Abort}
use Rattle.batch_script.specs.Machine.{ItemOf, PlainItem, reserve, show, batch}

-- a line is its bytes, without the line feed at its end
abbrev pub Line : Type 0
Line = List ℕ

-- the same lines with one byte more in front of the first
abbrev pub with_byte : ℕ → List Line → List Line
with_byte byte [] = (byte ∷ []) ∷ []
with_byte byte (line ∷ lines) = (byte ∷ line) ∷ lines

-- the lines of an input: its pieces between line feeds, but for an empty last piece
abbrev pub lines_of : List ℕ → List Line
lines_of [] = []
lines_of (byte ∷ bytes) = if byte == 10 then [] ∷ lines_of bytes else with_byte byte (lines_of bytes)

-- a line of a word and numbers: one space stands between words, and numbers have no leading zeros
abbrev pub line_of : List ℕ → List ℕ → Line
line_of word numbers = join_with_byte 32 (word ∷ map decimal numbers)

-- the word that a command begins with
abbrev pub word_of : Command ℕ → List ℕ
word_of (Push value) = codes "push"
word_of Pop = codes "pop"
word_of (Set at value) = codes "set"
word_of (Alloc value) = codes "alloc"
word_of (Free id) = codes "free"
word_of (Put id value) = codes "put"
word_of (Insert number) = codes "insert"
word_of (Remove number) = codes "remove"
word_of (Truncate kept) = codes "truncate"

-- the numbers that follow it
abbrev pub numbers_of : Command ℕ → List ℕ
numbers_of (Push value) = value ∷ []
numbers_of Pop = []
numbers_of (Set at value) = at ∷ value ∷ []
numbers_of (Alloc value) = value ∷ []
numbers_of (Free id) = id ∷ []
numbers_of (Put id value) = id ∷ value ∷ []
numbers_of (Insert number) = number ∷ []
numbers_of (Remove number) = number ∷ []
numbers_of (Truncate kept) = kept ∷ []

-- the line of a command
abbrev pub command_line : Command ℕ → Line
command_line command = line_of (word_of command) (numbers_of command)

-- the line that ends a batch
abbrev pub end_line : End → Line
end_line Commit = codes "commit"
end_line Abort = codes "abort"

-- a number that a script can write
abbrev pub IsWritable : ℕ → Type 0
IsWritable number = number < 2 ^ 64

-- a command has only numbers that a script can write
abbrev pub IsValidCommand : Command ℕ → Type 0
IsValidCommand command = AllByRecursion IsWritable (numbers_of command)

-- how bodies are printed: the lines of each between the one that begins it and the one that ends it, and which are valid
pub record Printing (B : Type 0) : Type 1 where
  pub body_lines : B → List Line
  pub is_valid : B → Type 0

module _ {B : Type 0} (printing : Printing B) where
  -- the lines of a body, and the one that ends it
  abbrev pub ended_lines : B → End → List Line
  ended_lines body ending = printing.body_lines body ++ end_line ending ∷ []

  -- the lines of a valid body and its end tell it from every other one, whatever follows them
  abbrev pub TellsBodies : Type 0
  TellsBodies = (body other : B) (ending end : End) (rest more : List Line) → printing.is_valid body → printing.is_valid other
      → ended_lines body ending ++ rest ≡ ended_lines other end ++ more → (body ≡ other) × (ending ≡ end) × (rest ≡ more)

  -- the lines that an item is printed as
  abbrev pub printed_over : ItemOf B → List Line
  printed_over (reserve number) = line_of (codes "reserve") (number ∷ []) ∷ []
  printed_over show = codes "show" ∷ []
  printed_over (batch body ending) = codes "begin" ∷ ended_lines body ending

  -- a reservation's number is one that a script can write, and the body of a batch is valid
  abbrev pub IsValidItemOver : ItemOf B → Type 0
  IsValidItemOver (reserve number) = IsWritable number
  IsValidItemOver show = ⊤
  IsValidItemOver (batch body ending) = printing.is_valid body

  -- the lines that items are printed as, one item after the other
  abbrev pub all_lines_over : List (ItemOf B) → List Line
  all_lines_over = flat_map printed_over

  -- the input is the script of these items
  pub record IsScriptOfOver (input : List ℕ) (items : List (ItemOf B)) : Type 0 where
    pub valid : AllByRecursion IsValidItemOver items
    pub lines : lines_of input ≡ all_lines_over items

  -- the input is a script
  abbrev pub IsScriptOver : List ℕ → Type 0
  IsScriptOver input = (items : List (ItemOf B)) × IsScriptOfOver input items

  -- the input is the script of items of which this holds
  abbrev pub IsScriptOfSome : (List (ItemOf B) → Type 0) → List ℕ → Type 0
  IsScriptOfSome Are input = (items : List (ItemOf B)) × Are items × IsScriptOfOver input items

  -- these lines begin the lines of a script
  abbrev pub IsOpenOver : List Line → Type 0
  IsOpenOver lines =
      (items : List (ItemOf B)) × (rest : List Line) × AllByRecursion IsValidItemOver items × (lines ++ rest ≡ all_lines_over items)

  -- The line of the fault of an input that is no script, counted from 1: with the lines before it a script may begin,
  -- and with it none. It is one past the last line if all lines together begin a script.
  pub record IsFaultLineOver (input : List ℕ) (line : ℕ) : Type 0 where
    pub counted : 1 ≤ line
    pub before : (count : ℕ) → count < line → IsOpenOver (take count (lines_of input))
    pub least : ((line ≤ length (lines_of input)) × (¬ IsOpenOver (take line (lines_of input)))) ⊎ (line ≡ length (lines_of input) + 1)

-- ---- scripts of batches

-- the body of a batch is printed as the lines of its commands, which have only numbers that a script can write
abbrev pub batch_printing : Printing (List (Command ℕ))
batch_printing = record { body_lines = map command_line; is_valid = AllByRecursion IsValidCommand }

-- the lines that an item is printed as
abbrev pub printed_lines : PlainItem → List Line
printed_lines = printed_over batch_printing

-- an item has only numbers that a script can write
abbrev pub IsValidItem : PlainItem → Type 0
IsValidItem = IsValidItemOver batch_printing

-- the lines that items are printed as, one item after the other
abbrev pub all_lines : List PlainItem → List Line
all_lines = all_lines_over batch_printing

-- the input is the script of these items
abbrev pub IsScriptOf : List ℕ → List PlainItem → Type 0
IsScriptOf = IsScriptOfOver batch_printing

-- the input is a script
abbrev pub IsScript : List ℕ → Type 0
IsScript = IsScriptOver batch_printing

-- these lines begin the lines of a script
abbrev pub IsOpen : List Line → Type 0
IsOpen = IsOpenOver batch_printing

-- the fault of an input that is no script is at this line
abbrev pub IsFaultLine : List ℕ → ℕ → Type 0
IsFaultLine = IsFaultLineOver batch_printing
