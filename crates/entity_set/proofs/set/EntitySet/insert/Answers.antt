use Rattle.std.proofs.Common.{subst, sym}
use Rattle.wic_base.specs.Sets.{AllBelow}
use Rattle.entity_set.proofs.KeysFacts.{below-insert, either_way}
use Rattle.entity_set.proofs.set.EntitySet.insert.Goals as goal

pub invariant_of-self : goal.invariant_of-self
invariant_of-self g c = either_way c.insert.result c.insert.ensures.members c.insert.ensures.refusal_leaves
    (λ put. below-insert g.K.EntityRef.limit _ _ _ c.index_of-number.ensures.below put c.self.invariant)
    (λ same. subst (λ v. AllBelow g.K.EntityRef.limit v.members) (sym same) c.self.invariant)
