use Rattle.std.proofs.Common.{subst}
use Rattle.wic_bitset.specs.Greatest.{IsMax}
use Rattle.wic_bitset.specs.Words.{EndsBefore}
use Rattle.wic_bitset.proofs.GreatestFacts.{ends-empty}
use Rattle.wic_bitset.proofs.set.CompoundBitSet.words_in_use.Goals as goal

pub returns-in-None-clause-reach : goal.returns-in-None-clause-reach
returns-in-None-clause-reach g c =
    let w = g.T.ScalarBitSetStorage.width in
    subst (λ v. EndsBefore w v.members 0) c.self.view_is
    (ends-empty w c.self.inside.words.members (subst (IsMax c.self.inside.words.members) c.in-None.is c.self.invariant.1))
