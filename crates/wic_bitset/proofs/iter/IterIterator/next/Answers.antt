use Rattle.std.proofs.Common.{ℕ, ◌<◌, ◌++◌, sym, ap, subst, ◌∙◌}
use Rattle.std.specs.Prelude.{All}
use Rattle.std.specs.List.{flat_map}
use Rattle.std.proofs.lemmas.List.Elements.{All-tail}
use Rattle.wic_bitset.specs.Rising.{word_members}
use Rattle.wic_bitset.proofs.iter.IterIterator.next.Goals as goal

pub loop-i-preserved : goal.loop-i-preserved
loop-i-preserved g c =
    let it = c.loop-i.self-inside in
    let members = word_members g.T.ScalarBitSetStorage.width it.words.now.members in
    let below = λ (k : ℕ). k < it.words.now.count in (
      ap (λ ys. ys ++ flat_map members c.next-in-loop-i.new.self) c.iter_word-self-inside.ensures.members
          ∙ ap (flat_map members) (sym c.in-Some-next.ensures.steps)
          ∙ ap (λ ys. ys ++ flat_map members it.filled) (sym c.in_default.ensures.steps.0)
          ∙ c.loop-i.invariant.0,
      All-tail below c.in-Some-next.k _ (subst (All below) c.in-Some-next.ensures.steps c.loop-i.invariant.1),
    )
