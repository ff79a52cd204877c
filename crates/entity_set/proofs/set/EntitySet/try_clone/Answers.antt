use Rattle.std.proofs.Common.{◌≡◌, ℕ, ◌<◌, true, sym, subst}
use Rattle.std.specs.FinSet as fin_set
use Rattle.entity_set.proofs.set.EntitySet.try_clone.Goals as goal

pub invariant_of-result : goal.invariant_of-result
invariant_of-result g c =
    subst (λ s. (i : ℕ) → fin_set.contains s.members i ≡ true → i < g.K.EntityRef.limit) (sym c.in_ok-bits.ensures.same) c.self.invariant
