use Rattle.std.proofs.Common.{◌≡◌, ◌↔◌, IsTrue, subst}
use Rattle.wic_bitset.proofs.set.CompoundBitSet.has_same_members.Goals as goal

pub returns : goal.returns
returns g c =
    let r = c.same_marked.result in
    subst (λ v. IsTrue r ↔ (v.members ≡ c.args.other.now.members)) c.self.view_is
    (subst (λ v. IsTrue r ↔ (c.self.inside.words.members ≡ v.members)) c.other.view_is c.same_marked.ensures)
