-- A number put into a set, and what the numbers of the set are below.
use Rattle.std.proofs.Common.{⊎_elim, ◌≡◌, ℕ, ◌<◌, true, sym, ◌∙◌}
use Rattle.std.specs.Ordering.{nat_cmp}
use Rattle.std.specs.FinSet.{FinSet, contains, insert}
use Rattle.std.proofs.lemmas.Bool.{cases_eq}
use Rattle.wic_base.proofs.SetFacts.{same_after_insert}

-- a number below the end joins numbers below it
pub below-insert : (s : FinSet nat_cmp) (n end : ℕ) → ((q : ℕ) → contains s q ≡ true → q < end) → n < end → (q : ℕ)
    → contains (insert s n) q ≡ true → q < end
below-insert s n end below less q member = ⊎_elim
    (λ same. rw same less)
    (λ apart. below q (sym (same_after_insert s n q apart) ∙ member))
    (cases_eq q n)
