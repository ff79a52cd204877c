-- A line of a word and numbers can be read in one way alone.
use Rattle.std.proofs.Common.{◌≡◌, ◌≢◌, ℕ, true, false, List, [], ◌∷◌, ◌++◌, map, refl, sym, ap, subst, ◌∙◌, arith}
use Rattle.std.specs.Prelude.{nat_eq}
use Rattle.std.specs.List.{AllByRecursion, join_with_byte}
use Rattle.std.specs.Fmt.{decimal}
use Rattle.std.proofs.lemmas.Bool.{or_parts}
use Rattle.std.proofs.Math.Bool.{or-true}
use Rattle.std.proofs.lemmas.List.Folds.{list_any-append}
use Rattle.std.proofs.lemmas.Fmt.{decimal_injective}
use Rattle.batch_script.specs.Grammar.{IsWritable, line_of}
use Rattle.batch_script.specs.Reading.{HasParts, has_space}
use Rattle.batch_script.proofs.CutFacts.{none_in_decimal}

-- the texts are words: no space stands in them
abbrev AreWords : List (List ℕ) → Type 0
AreWords = AllByRecursion (λ word. has_space word ≡ false)

-- a space at the front, or within, is found
space_first : (byte : ℕ) (bytes : List ℕ) → 32 ≡ byte → has_space (byte ∷ bytes) ≡ true
space_first byte bytes is = subst (λ b. has_space (b ∷ bytes) ≡ true) is refl

space_within : (front back : List ℕ) → has_space (front ++ 32 ∷ back) ≡ true
space_within front back = list_any-append (nat_eq 32) front (32 ∷ back) ∙ or-true (has_space front)

-- a word isn't two parts with a space between them
word_has_none : (word front back : List ℕ) → has_space word ≡ false → word ≡ front ++ 32 ∷ back → ⊥
word_has_none word front back none parts = let found = ap has_space parts ∙ space_within front back in cc

-- the words before the first space are the same, and so is what follows it
cut_at_space : (word other rest more : List ℕ) → has_space word ≡ false → has_space other ≡ false
    → word ++ 32 ∷ rest ≡ other ++ 32 ∷ more → (word ≡ other) × (rest ≡ more)
cut_at_space [] [] rest more none nor same = (refl, cc)
cut_at_space [] (byte ∷ other) rest more none nor same =
    let head : 32 ≡ byte = cc in let found = space_first byte other head in absurd (cc)
cut_at_space (byte ∷ word) [] rest more none nor same =
    let head : 32 ≡ byte = cc in let found = space_first byte word head in absurd (cc)
cut_at_space (byte ∷ word) (letter ∷ other) rest more none nor same =
    let tails : word ++ 32 ∷ rest ≡ other ++ 32 ∷ more = cc in
    let front_none = (or_parts (nat_eq 32 byte) (has_space word) none).1 in
    let front_nor = (or_parts (nat_eq 32 letter) (has_space other) nor).1 in
    let later = cut_at_space word other rest more front_none front_nor tails in
    let words : word ≡ other = later.0 in
    (cc, later.1)

-- words joined by one space are known by the text
same_words : (word other : List ℕ) (words others : List (List ℕ)) → AreWords (word ∷ words) → AreWords (other ∷ others)
    → join_with_byte 32 (word ∷ words) ≡ join_with_byte 32 (other ∷ others) → (word ≡ other) × (words ≡ others)
same_words word other [] [] are being same = (same, refl)
same_words word other [] (next ∷ others) are being same =
    absurd (word_has_none word other (join_with_byte 32 (next ∷ others)) are.0 same)
same_words word other (next ∷ words) [] are being same =
    absurd (word_has_none other word (join_with_byte 32 (next ∷ words)) being.0 (sym same))
same_words word other (next ∷ words) (following ∷ others) are being same =
    let cut = cut_at_space word other (join_with_byte 32 (next ∷ words)) (join_with_byte 32 (following ∷ others)) are.0 being.0 same in
    let later = same_words next following words others are.1 being.1 cut.1 in
    let nexts : next ≡ following = later.0 in
    let rests : words ≡ others = later.1 in
    (cut.0, cc)

-- decimals are words
decimals_are_words : (numbers : List ℕ) → AllByRecursion IsWritable numbers → AreWords (map decimal numbers)
decimals_are_words [] valid = tt
decimals_are_words (number ∷ numbers) valid = (none_in_decimal 32 number (omega arith) valid.0, decimals_are_words numbers valid.1)

-- decimals are known by their texts
same_numbers : (numbers others : List ℕ) → AllByRecursion IsWritable numbers → AllByRecursion IsWritable others
    → map decimal numbers ≡ map decimal others → numbers ≡ others
same_numbers [] [] valid sound same = refl
same_numbers [] (other ∷ others) valid sound same = absurd (let bad : _ = same in cc)
same_numbers (number ∷ numbers) [] valid sound same = absurd (let bad : _ = same in cc)
same_numbers (number ∷ numbers) (other ∷ others) valid sound same =
    let heads : decimal number ≡ decimal other = cc in
    let tails : map decimal numbers ≡ map decimal others = cc in
    let first : number ≡ other = decimal_injective number other valid.0 sound.0 heads in
    let later : numbers ≡ others = same_numbers numbers others valid.1 sound.1 tails in
    cc

-- the line tells its word and its numbers
pub same_line : (word other numbers others : List ℕ) → has_space word ≡ false → has_space other ≡ false
    → AllByRecursion IsWritable numbers → AllByRecursion IsWritable others → line_of word numbers ≡ line_of other others
    → (word ≡ other) × (numbers ≡ others)
same_line word other numbers others is be valid sound same =
    let parts = same_words word other (map decimal numbers) (map decimal others) (is, decimals_are_words numbers valid)
    (be, decimals_are_words others sound) same in
    (parts.0, same_numbers numbers others valid sound parts.1)

module _ {X : Type 0} (word_of numbers_of : X → List ℕ) (one_word : (x : X) → has_space (word_of x) ≡ false) where
  -- a line of a word and numbers that no x has is the line of none
  pub line_of_none : (line word numbers : List ℕ) → HasParts line word numbers
      → ((x : X) → numbers_of x ≡ numbers → word_of x ≢ word)
      → (x : X) → AllByRecursion IsWritable (numbers_of x) → line ≢ line_of (word_of x) (numbers_of x)
  line_of_none line word numbers has never x valid is =
      let same = same_line (word_of x) word (numbers_of x) numbers (one_word x) has.is_word valid has.writable (sym is ∙ has.same) in
      never x same.1 same.0

  -- an x is known by its line if it is made again of its word and its numbers
  pub known_by_line : (from : List ℕ → List ℕ → X) → ((x : X) → from (word_of x) (numbers_of x) ≡ x) → (x other : X)
      → AllByRecursion IsWritable (numbers_of x) → AllByRecursion IsWritable (numbers_of other)
      → line_of (word_of x) (numbers_of x) ≡ line_of (word_of other) (numbers_of other) → x ≡ other
  known_by_line from again x other valid sound same =
      let parts = same_line (word_of x) (word_of other) (numbers_of x) (numbers_of other) (one_word x) (one_word other) valid sound same in
      sym (again x) ∙ (λ i. from (parts.0 i) (parts.1 i)) ∙ again other
