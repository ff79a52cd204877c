-- Two sets, a word at a time.
use Rattle.std.specs.Prelude.{◌≡◌, ◌≢◌, ℕ, ◌/◌, Bool, true, false, not, ◌&&◌, ◌||◌}
use Rattle.std.specs.Ordering.{nat_cmp}
use Rattle.std.specs.FinSet.{FinSet, contains}
use Rattle.wic_bitset.specs.Words.{EndsBefore}
use Rattle.wic_bitset.specs.declared.combination.Combination.{Combination}
use Rattle.wic_bitset.specs.declared.combination.Combination.TheVariants.{Union, Intersection, Difference}

-- whether a number is in the combination of two sets, by whether it is in each
abbrev pub combined : Combination → Bool → Bool → Bool
combined Union a b = a || b
combined Intersection a b = a && b
combined Difference a b = a && not b

-- b tells whether t is another set than s
abbrev pub TellsChange : Bool → FinSet nat_cmp → FinSet nat_cmp → Type 0
TellsChange true s t = (i : ℕ) × (contains t i ≡ not (contains s i))
TellsChange false s t = t ≡ s

-- r is, in word k, the combination of s and t; elsewhere it is s
pub record CombinesWord (w : ℕ) (how : Combination) (k : ℕ) (s t r : FinSet nat_cmp) : Type 0 where
  pub here : (i : ℕ) → i / w ≡ k → contains r i ≡ combined how (contains s i) (contains t i)
  pub elsewhere : (i : ℕ) → i / w ≢ k → contains r i ≡ contains s i

-- the combination of s and t has no member in word k
abbrev pub CombinesToNone : ℕ → Combination → ℕ → FinSet nat_cmp → FinSet nat_cmp → Type 0
CombinesToNone w how k s t = (i : ℕ) → i / w ≡ k → combined how (contains s i) (contains t i) ≡ false

-- the combination of s and t has no member of s
abbrev pub KeepsNone : Combination → FinSet nat_cmp → FinSet nat_cmp → Type 0
KeepsNone how s t = (i : ℕ) → contains s i ≡ true → combined how (contains s i) (contains t i) ≡ false

-- the words that a combination can change, by the words that have a member in the one set and in the other
abbrev pub words_to_combine : Combination → FinSet nat_cmp → FinSet nat_cmp → FinSet nat_cmp
words_to_combine Union marks other = other
words_to_combine Intersection marks other = marks
words_to_combine Difference marks other = marks

-- there is a word below `count` for each member of t that the combination puts in
abbrev pub HasWordsFor : ℕ → Combination → FinSet nat_cmp → ℕ → Type 0
HasWordsFor w Union t count = EndsBefore w t count
HasWordsFor w Intersection t count = Unit {0}
HasWordsFor w Difference t count = Unit {0}
