use Rattle.std.proofs.Common.{◌≡◌, ◌*◌, ◌<◌, ◌↔◌, IsNone, subst}
use Rattle.std.specs.Prelude.{IfSome, None}
use Rattle.std.specs.List.{last_or}
use Rattle.std.specs.FinSet.{empty}
use Rattle.wic_bitset.proofs.GreatestFacts.{max-below, max-none}
use Rattle.wic_bitset.specs.Rising.{rising}
use Rattle.wic_bitset.proofs.RisingFacts.{max-last}
use Rattle.wic_bitset.proofs.set.CompoundBitSet.max.Goals as goal

pub returns-clause-none : goal.returns-clause-none
returns-clause-none g c =
    subst (λ v. IsNone c.self.inside.max ↔ (v.members ≡ empty)) c.self.view_is (max-none _ _ c.self.invariant.1)

pub returns-clause-below : goal.returns-clause-below
returns-clause-below g c =
    let w = g.T.ScalarBitSetStorage.width in
    subst (λ v. IfSome c.self.inside.max (λ x. x < v.words * w)) c.self.view_is
    (max-below w c.self.inside.words.count c.self.inside.words.members c.self.inside.max g.T.ScalarBitSetStorage.width_within.positive
    c.self.invariant.0.ends c.self.invariant.1)

pub returns-clause-last : goal.returns-clause-last
returns-clause-last g c =
    subst (λ v. c.self.inside.max ≡ last_or None (rising v.members)) c.self.view_is (max-last _ _ c.self.invariant.1)
