-- Words emptied one after the other.
use Rattle.std.proofs.Common.{⊎_elim, ◌≡◌, ℕ, ◌+◌, ◌/◌, ◌<◌, ◌≤◌, true, sym, ◌∙◌, arith}
use Rattle.std.specs.Ordering.{nat_cmp}
use Rattle.std.specs.FinSet.{FinSet, empty, contains}
use Rattle.std.proofs.lemmas.Bool.{cases_eq, false_from_ne_true}
use Rattle.wic_base.proofs.SetFacts.{empty_of_none}
use Rattle.wic_bitset.specs.From.{NoneFrom}
use Rattle.wic_bitset.specs.Words.{EmptiesWord}

-- each member of s stands in a word from k to below `end`
abbrev pub StandsIn : ℕ → ℕ → ℕ → FinSet nat_cmp → Type 0
StandsIn w k end s = (i : ℕ) → contains s i ≡ true → (k ≤ i / w) × (i / w < end)

-- each member of s stands in a marked word from word `next` on
abbrev pub StandsMarked : ℕ → FinSet nat_cmp → ℕ → FinSet nat_cmp → Type 0
StandsMarked w marks next s = (i : ℕ) → contains s i ≡ true → (next ≤ i / w) × (contains marks (i / w) ≡ true)

-- the first of these words is emptied
pub stands_in_less : (w k end : ℕ) (s t : FinSet nat_cmp) → EmptiesWord w k s t → StandsIn w k end s → StandsIn w (k + 1) end t
stands_in_less w k end s t emptied before i has = ⊎_elim
    (λ at. absurd (let none = emptied.here i at in cc))
    (λ apart. let was = before i (sym (emptied.elsewhere i apart) ∙ has) in (omega (arith, was.0), was.1))
    (cases_eq (i / w) k)

-- no word is left
pub stands_nowhere : (w end : ℕ) (s : FinSet nat_cmp) → StandsIn w end end s → s ≡ empty
stands_nowhere w end s none =
    empty_of_none s (λ i. false_from_ne_true (contains s i) (λ has. absurd (let h = none i has in omega (arith, h.0, h.1))))

-- no word is left
pub stands_marked-none : (w next : ℕ) (marks s : FinSet nat_cmp) → NoneFrom marks next → StandsMarked w marks next s → s ≡ empty
stands_marked-none w next marks s none before = empty_of_none s (λ i. false_from_ne_true (contains s i) (λ has. absurd (
    let was = before i has in
    let no = none (i / w) was.0 in
    let yes = was.1 in
    cc)))
