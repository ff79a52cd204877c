use Rattle.std.proofs.Common.{◌*◌, ap, sym, subst}
use Rattle.std.proofs.lemmas.Result.{on_err_weaker}
use Rattle.wic_base.specs.Sets.{AllBelow}
use Rattle.wic_bitset.specs.Compound.{Compound}
use Rattle.entity_set.proofs.KeysFacts.{below-union, either_way}
use Rattle.entity_set.proofs.set.EntitySet.union_with.Goals as goal

pub invariant_of-self : goal.invariant_of-self
invariant_of-self g c = either_way c.union_with.result c.union_with.ensures.members c.union_with.ensures.refusal_leaves
    (λ joined. below-union g.K.EntityRef.limit _ _ _ joined c.self.invariant c.other.invariant)
    (λ same. subst (λ v. AllBelow g.K.EntityRef.limit v.members) (sym same) c.self.invariant)

pub returns-clause-room : goal.returns-clause-room
returns-clause-room g c = rw (← c.self.view_is) (rw (← c.other.view_is) record {
  never_refused_within = c.union_with.ensures.never_refused_within;
  capacity_kept_within = λ below. ap (λ n. n * 64) (c.union_with.ensures.words_kept_within below);
  refused_only_beyond = c.union_with.ensures.refused_only_beyond;
  refusal_leaves = on_err_weaker c.union_with.result
      (λ same. ap (λ (v : Compound). record { members = v.members; capacity = v.words * 64 }) same)
      c.union_with.ensures.refusal_leaves;
  capacity_never_falls = c.union_with.ensures.capacity_never_falls;
})
