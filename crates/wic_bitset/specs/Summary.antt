-- The summary of a set in words: the numbers of the words that have a member.
use Rattle.std.specs.Prelude.{◌≡◌, ℕ, ◌/◌, ◌≤◌, List, map, false, true, ◌↔◌}
use Rattle.std.specs.List.{flat_map}
use Rattle.std.specs.Ordering.{nat_cmp}
use Rattle.std.specs.FinSet.{FinSet, contains, items, from_list}
use Rattle.wic_bitset.specs.Compound.{max_number}
use Rattle.wic_bitset.specs.Rising.{word_members}
use Rattle.wic_bitset.specs.Words.{Words, most_words, EndsBefore, IsWordEmpty}

-- the marks are just the numbers of the words that have a member, and there is a place for that of each word
pub record Summarizes (w : ℕ) (words : Words) (marks : FinSet nat_cmp) (end : ℕ) : Type 0 where
  pub digits : (k : ℕ) → (contains marks k ≡ false) ↔ IsWordEmpty w words.members k
  pub reach : words.count ≤ end
  -- and of the words themselves: each member has one, none is above the greatest number, and there are not too many
  pub ends : EndsBefore w words.members words.count
  pub numbers : (i : ℕ) → contains words.members i ≡ true → i ≤ max_number
  pub few : words.count ≤ most_words

-- the words that have a member: the different values of a member divided by the width, rounded down
abbrev pub filled_words : ℕ → FinSet nat_cmp → FinSet nat_cmp
filled_words w s = from_list (map (λ i. i / w) (items s))

-- how many digits a word of a set's summary has, whatever the width of the set's own words is
abbrev pub summary_width : ℕ
summary_width = 128

-- the words that have a member, ascending, of those whose digits stand in word k of a summary whose words are v wide
abbrev pub block_words : ℕ → ℕ → FinSet nat_cmp → ℕ → List ℕ
block_words w v s k = word_members v (filled_words w s) k

-- the members in these words, ascending
abbrev pub block_members : ℕ → ℕ → FinSet nat_cmp → ℕ → List ℕ
block_members w v s k = flat_map (word_members w s) (block_words w v s k)
