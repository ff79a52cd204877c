use Rattle.std.proofs.Common.{ℕ, ◌≡◌, ◌↔◌, Some, Bool, IsTrue, slice_get, sym, subst, ◌∙◌}
use Rattle.liveness.specs.Live.{IsLive}
use Rattle.liveness.proofs.SetsFacts.{has_at}
use Rattle.liveness.proofs.callers.may_be_used.Goals as goal

pub returns-clause-exact : goal.returns-clause-exact
returns-clause-exact g c =
    let sets = c.in_ok-sets.sets.items in
    let b = c.args.b.0 in
    let v = c.args.v.0 in
    let at = subst (λ (i : ℕ). slice_get sets i ≡ Some c.index-2.result.now) c.index.ensures.value c.index-2.ensures in
    subst (λ (r : Bool). IsTrue r ↔ IsLive c.args.graph.now.blocks v b) (has_at sets _ v b at ∙ sym c.contains.ensures.member)
    (c.in_ok-sets.ensures.live.exact b c.requires v)
