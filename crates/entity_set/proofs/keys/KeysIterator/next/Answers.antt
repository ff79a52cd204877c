use Rattle.std.proofs.Common.{◌<◌, ℕ, sym, subst}
use Rattle.std.specs.Prelude.{All}
use Rattle.std.proofs.lemmas.List.Elements.{All-nil, All-tail}
use Rattle.entity_set.proofs.keys.KeysIterator.next.Goals as goal
use Rattle.entity_set.proofs.keys.KeysIterator.next.Goals.{in-Some, in-None}

pub invariant_of-self : goal.invariant_of-self
invariant_of-self g c =
    let below = λ (i : ℕ). i < g.K.EntityRef.limit in
    elim c.match-next.branch [
      | in-Some b ↦ All-tail below b.in-Some.number c.next.new.self (subst (All below) b.in-Some.ensures.steps c.self.invariant)
      | in-None b ↦ subst (All below) (sym b.in-None.ensures.steps.1) (All-nil below)
    ]
