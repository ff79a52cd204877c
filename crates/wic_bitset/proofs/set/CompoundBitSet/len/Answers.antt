use Rattle.std.proofs.Common.{ℕ, ◌<◌, ◌≤◌, length, length-append, sym, ap, subst, ◌∙◌, arith}
use Rattle.std.specs.Prelude.{All}
use Rattle.std.specs.List.{flat_map}
use Rattle.std.proofs.lemmas.List.Elements.{All-head, All-tail}
use Rattle.wic_bitset.specs.Compound.{max_capacity}
use Rattle.wic_bitset.specs.Rising.{rising, word_members}
use Rattle.wic_bitset.specs.Summary.{filled_words}
use Rattle.wic_bitset.proofs.ByWordFacts.{by_words}
use Rattle.wic_bitset.proofs.RisingFacts.{length-rising, length-rising-le}
use Rattle.wic_bitset.proofs.SummaryFacts.{All-filled}
use Rattle.wic_bitset.proofs.set.CompoundBitSet.len.Goals as goal

pub loop-k-init : goal.loop-k-init
loop-k-init g c =
    let w = g.T.ScalarBitSetStorage.width in
    let s = c.args.self.now.members in
    let filled = c.into_iter-k-iterator.ensures.into_iter_gives ∙ c.filled-k-items.ensures in
    let all = ap length (ap (flat_map (word_members w s)) filled ∙ by_words w s g.T.ScalarBitSetStorage.width_within.positive) in
    let few = subst (λ v. length (rising v.members) ≤ max_capacity) c.self.view_is
    (length-rising-le c.self.inside.words.members max_capacity (λ i has. let h = c.self.invariant.0.numbers i has in omega arith)) in (
      omega (arith, all, length-rising s),
      (
        omega (arith, few, length-rising s),
        subst (All (λ k. k < c.args.self.now.words)) (sym filled)
            (subst (λ v. All (λ k. k < v.words) (rising (filled_words w v.members))) c.self.view_is
            (All-filled w _ _ _ c.self.invariant.0)),
      ),
    )

pub iter_word-requires : goal.iter_word-requires
iter_word-requires g c =
    let below = λ (k : ℕ). k < c.args.self.now.words in
    subst (λ v. c.in-Some.k < v.words) (sym c.self.view_is)
    (All-head below c.in-Some.k _ (subst (All below) c.in-Some.ensures.steps c.loop-k.invariant.1.1))

pub loop-k-preserved : goal.loop-k-preserved
loop-k-preserved g c =
    let w = g.T.ScalarBitSetStorage.width in
    let members = word_members w c.args.self.now.members in
    let below = λ (k : ℕ). k < c.args.self.now.words in
    let before = ap (λ ks. length (flat_map members ks)) c.in-Some.ensures.steps in
    let word = ap length (c.iter_word.ensures.members ∙ ap (λ v. word_members w v.members c.in-Some.k) c.self.view_is) in (
      omega (arith, before, word, c.loop-k.invariant.0, length-append (members c.in-Some.k) (flat_map members c.next.new.self)),
      (c.loop-k.invariant.1.0, All-tail below c.in-Some.k _ (subst (All below) c.in-Some.ensures.steps c.loop-k.invariant.1.1)),
    )
