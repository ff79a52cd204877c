-- What stands at the front of an input.
use Rattle.std.specs.Prelude.{◌≡◌, ◌⊎◌, ℕ, slice_index, ◌<◌, Bool, false, nat_eq, List, [], ◌∷◌, ◌++◌, length, map}
use Rattle.std.specs.List.{AllByRecursion, list_any, join_with_byte}
use Rattle.std.specs.Fmt.{decimal}
use Rattle.std.specs.Int.{IsInRange}
use Rattle.batch_script.specs.Grammar.{Line, IsWritable, lines_of}
use Rattle.batch_script.specs.Reading.{HasNoParts, has_space}

-- whether a line feed stands in the text
abbrev pub has_feed : List ℕ → Bool
has_feed = list_any (nat_eq 10)

-- there are bytes, and no line feed among them
abbrev pub IsOneLine : List ℕ → Type 0
IsOneLine line = (0 < length line) × (has_feed line ≡ false)

-- no digit stands at the front
abbrev pub HasNoDigitFirst : List ℕ → Type 0
HasNoDigitFirst rest = 0 < length rest → ¬ IsInRange 48 57 (slice_index rest 0)

-- the line ends here, and behind it stands this
abbrev pub EndsLine : List ℕ → List ℕ → Type 0
EndsLine rest later = ((rest ≡ []) × (later ≡ [])) ⊎ (rest ≡ 10 ∷ later)

-- the text is a front with neither space nor line feed, and what stands behind it from the first of these on
pub record IsCut (text word rest : List ℕ) : Type 0 where
  pub same : text ≡ word ++ rest
  pub no_space : has_space word ≡ false
  pub no_feed : has_feed word ≡ false
  pub stops : 0 < length rest → (slice_index rest 0 ≡ 32) ⊎ (slice_index rest 0 ≡ 10)

-- the text is these numbers, one at least, with one space between them, and then this rest, which ends the line
pub record AreNumbersBefore (text numbers rest later : List ℕ) : Type 0 where
  pub some : 0 < length numbers
  pub writable : AllByRecursion IsWritable numbers
  pub same : text ≡ join_with_byte 32 (map decimal numbers) ++ rest
  pub ends : EndsLine rest later

-- the first line is no word with up to two numbers
abbrev pub HasFault : List ℕ → Type 0
HasFault input = (line : Line) × (lines : List Line) × (lines_of input ≡ line ∷ lines) × HasNoParts line
