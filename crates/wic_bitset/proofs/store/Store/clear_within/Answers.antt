use Rattle.std.proofs.Common.{◌≡◌, refl, subst, ◌∙◌, arith}
use Rattle.wic_bitset.proofs.ClearFacts.{StandsIn, stands_in_less, stands_nowhere}
use Rattle.wic_bitset.proofs.store.Store.clear_within.Goals as goal

pub loop-k-init : goal.loop-k-init
loop-k-init g c = record {
  left = λ i has. (omega arith, c.requires.none_after i has);
  count = refl;
  room = refl;
}

pub loop-k-preserved : goal.loop-k-preserved
loop-k-preserved g c = record {
  left = stands_in_less g.T.ScalarBitSetStorage.width _ _ _ _ c.clear_word.ensures.members c.loop-k.invariant.left;
  count = c.clear_word.ensures.count ∙ c.loop-k.invariant.count;
  room = c.clear_word.ensures.room ∙ c.loop-k.invariant.room;
}

pub returns-clause-members : goal.returns-clause-members
returns-clause-members g c =
    let w = g.T.ScalarBitSetStorage.width in
    let done : c.loop-k.k ≡ c.args.end = omega arith in
    stands_nowhere w c.args.end _ (subst (λ k. StandsIn w k c.args.end c.loop-k.self.members) done c.loop-k.invariant.left)
