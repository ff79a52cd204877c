use Rattle.std.proofs.Common.{◌≡◌, ◌↔◌, IsTrue, subst}
use Rattle.std.specs.FinSet.{empty, intersection}
use Rattle.wic_bitset.proofs.CombinationFacts.{disjoint_from_test}
use Rattle.wic_bitset.proofs.set.CompoundBitSet.is_disjoint.Goals as goal

pub returns : goal.returns
returns g c =
    let r = c.keeps_none_marked.result in
    subst (λ v. IsTrue r ↔ (intersection v.members c.args.other.now.members ≡ empty)) c.self.view_is
    (subst (λ v. IsTrue r ↔ (intersection c.self.inside.words.members v.members ≡ empty)) c.other.view_is
    (disjoint_from_test c.self.inside.words.members c.other.inside.words.members r c.keeps_none_marked.ensures))
