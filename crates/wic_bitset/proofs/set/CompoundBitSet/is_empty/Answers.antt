use Rattle.std.proofs.Common.{◌≡◌, ◌↔◌, IsTrue, subst}
use Rattle.std.specs.FinSet.{empty}
use Rattle.wic_bitset.proofs.GreatestFacts.{max-none_test}
use Rattle.wic_bitset.proofs.set.CompoundBitSet.is_empty.Goals as goal

pub returns : goal.returns
returns g c = record {
  empty = subst (λ v. IsTrue c.is_none.result ↔ (v.members ≡ empty)) c.self.view_is
      (max-none_test _ _ _ c.self.invariant.1 c.is_none.ensures);
}
