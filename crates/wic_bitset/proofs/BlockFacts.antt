-- The members by the words of the summary that have a member: its blocks.
use Rattle.std.proofs.Common.{⊎_elim, ◌≡◌, ℕ, ◌<◌, ◌≤◌, true, List, [], ◌∷◌, ◌++◌, length, refl, sym, ap, ◌∙◌, arith}
use Rattle.std.specs.Prelude.{All}
use Rattle.std.specs.Int.{div_ceil}
use Rattle.std.specs.List.{flat_map}
use Rattle.std.specs.Ordering.{nat_cmp}
use Rattle.std.specs.FinSet.{FinSet, contains}
use Rattle.std.proofs.lemmas.Bool.{cases_lt, false_from_ne_true}
use Rattle.std.proofs.lemmas.Grind.{flat_map-append}
use Rattle.wic_bitset.specs.Rising.{rising, word_members}
use Rattle.wic_bitset.specs.Summary.{Summarizes, block_members, block_words, filled_words}
use Rattle.wic_bitset.specs.Words.{Words, IsWordEmpty}
use Rattle.wic_bitset.proofs.ByWordFacts.{by_words, filled_words-empty}
use Rattle.wic_bitset.proofs.DivisionFacts.{below_div_ceil}
use Rattle.wic_bitset.proofs.RisingFacts.{All-rising, length-rising-le}
use Rattle.wic_bitset.proofs.SummaryFacts.{filled_within}

-- pieces of pieces are pieces of the whole
flat_map-nested : (f g : ℕ → List ℕ) (xs : List ℕ) → flat_map (λ x. flat_map f (g x)) xs ≡ flat_map f (flat_map g xs)
flat_map-nested f g [] = refl
flat_map-nested f g (x ∷ xs) =
    ap (λ ys. flat_map f (g x) ++ ys) (flat_map-nested f g xs) ∙ sym (flat_map-append f (g x) (flat_map g xs))

-- the words of all blocks are the words that have a member
pub words_by_blocks : (w v : ℕ) (s : FinSet nat_cmp) → 0 < v
    → flat_map (block_words w v s) (rising (filled_words v (filled_words w s))) ≡ rising (filled_words w s)
words_by_blocks w v s some = by_words v (filled_words w s) some

-- and the members of all blocks are the members
pub members_by_blocks : (w v : ℕ) (s : FinSet nat_cmp) → 0 < w → 0 < v
    → flat_map (block_members w v s) (rising (filled_words v (filled_words w s))) ≡ rising s
members_by_blocks w v s some some_digits =
    flat_map-nested (word_members w s) (block_words w v s) (rising (filled_words v (filled_words w s)))
    ∙ ap (flat_map (word_members w s)) (words_by_blocks w v s some_digits)
    ∙ by_words w s some

module _ (w v : ℕ) (words : Words) (marks : FinSet nat_cmp) (end : ℕ) (sum : Summarizes w words marks end) (some : 0 < v) where
  -- a block is one of the summary's words
  block_within : (b : ℕ) → contains (filled_words v (filled_words w words.members)) b ≡ true → b < div_ceil words.count v
  block_within b has = ⊎_elim
      (λ inside. inside)
      (λ above. absurd (
      let none : IsWordEmpty v (filled_words w words.members) b =
      λ k at. false_from_ne_true (contains (filled_words w words.members) k) (λ there. absurd (
      let low = below_div_ceil v k words.count some (filled_within w words marks end sum k there) in omega arith)) in
      let no = (filled_words-empty v (filled_words w words.members) b).1 none in
      cc))
      (cases_lt b (div_ceil words.count v))

  -- so is each
  pub All-blocks : All (λ b. b < div_ceil words.count v) (rising (filled_words v (filled_words w words.members)))
  All-blocks = All-rising (λ b. b < div_ceil words.count v) (filled_words v (filled_words w words.members)) block_within

  -- and there are no more than the summary's words
  pub few_blocks : length (rising (filled_words v (filled_words w words.members))) ≤ div_ceil words.count v
  few_blocks = length-rising-le (filled_words v (filled_words w words.members)) (div_ceil words.count v) block_within
