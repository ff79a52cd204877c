use Rattle.std.proofs.Common.{◌<◌, ap, subst, sym, ◌∙◌}
use Rattle.std.specs.FinSet.{insert}
use Rattle.wic_base.proofs.SetFacts.{insert-remove}
use Rattle.entity_set.proofs.KeysFacts.{on_ok, same_entities}
use Rattle.entity_set.proofs.callers.leave_for_a_while.Goals as goal

pub returns-in-Some : goal.returns-in-Some
returns-in-Some g c =
    let key = g.K.EntityRef.number c.in-Some.key in
    let below = subst (λ n. key < n) (sym c.in-Some.ensures.capacity_stays) c.in-Some.ensures.below in
    same_entities _ _
    (on_ok c.insert.result (c.insert.ensures.room.never_refused_within below) c.insert.ensures.members
    ∙ ap (λ s. insert s key) c.in-Some.ensures.members ∙ insert-remove _ key c.in-Some.ensures.member)
    (c.insert.ensures.room.capacity_kept_within below ∙ c.in-Some.ensures.capacity_stays)
