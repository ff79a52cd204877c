use Rattle.std.proofs.Common.{ℕ, ◌≡◌, ◌++◌, ◌<◌, length, sym, ap, subst, ◌∙◌, arith}
use Rattle.std.specs.Prelude.{All}
use Rattle.std.specs.List.{flat_map}
use Rattle.std.proofs.lemmas.List.{append_assoc}
use Rattle.std.proofs.lemmas.List.Elements.{All-head, All-tail}
use Rattle.std.specs.Int.{div_ceil}
use Rattle.wic_bitset.specs.Rising.{word_members}
use Rattle.wic_bitset.specs.Summary.{block_words, summary_width}
use Rattle.wic_bitset.proofs.DivisionFacts.{div_ceil-least}
use Rattle.wic_bitset.proofs.SummaryFacts.{All-block_words, block_words-are}
use Rattle.wic_bitset.proofs.set.CompoundBitSet.push_block.Goals as goal

pub read-k-items-requires : goal.read-k-items-requires
read-k-items-requires g c =
    let words = ap (λ v. div_ceil v.words summary_width) c.self.view_is in
    let least = div_ceil-least summary_width c.self.inside.words.count c.self.inside.summary.count (omega arith) c.self.invariant.0.reach in
    omega (arith, c.requires, words, least)

pub loop-k-init : goal.loop-k-init
loop-k-init g c =
    let w = g.T.ScalarBitSetStorage.width in
    let now = c.args.self.now in
    let block : c.into_iter-k-iterator.result ≡ block_words w summary_width now.members c.args.s =
    c.into_iter-k-iterator.ensures.into_iter_gives ∙ c.read-k-items.ensures.members
    ∙ block_words-are w summary_width _ _ _ c.self.invariant.0 c.args.s
    ∙ ap (λ v. block_words w summary_width v.members c.args.s) c.self.view_is in
    let long = ap length block in (
      ap (λ ks. c.args.list.now.items ++ flat_map (word_members w now.members) ks) block,
      (
        omega (arith, long, c.read-k-items.ensures.looks),
        subst (All (λ k. k < now.words)) (sym block)
            (subst (λ v. All (λ k. k < v.words) (block_words w summary_width v.members c.args.s)) c.self.view_is
            (All-block_words w summary_width _ _ _ c.self.invariant.0 c.args.s)),
      ),
    )

pub push_word-requires : goal.push_word-requires
push_word-requires g c =
    let below = λ (k : ℕ). k < c.args.self.now.words in
    All-head below c.in-Some.k _ (subst (All below) c.in-Some.ensures.steps c.loop-k.invariant.1.1)

pub loop-k-preserved : goal.loop-k-preserved
loop-k-preserved g c =
    let members = word_members g.T.ScalarBitSetStorage.width c.args.self.now.members in
    let below = λ (k : ℕ). k < c.args.self.now.words in
    let old = c.loop-k.list.items in
    let rest = flat_map members c.next.new.self in
    let shorter = ap length c.in-Some.ensures.steps in
    let looks = c.in_ok-push_word.ensures.looks in
    let before = c.loop-k.invariant.1.0 in (
      ap (λ xs. xs ++ rest) c.in_ok-push_word.ensures.members
          ∙ append_assoc old (members c.in-Some.k) rest
          ∙ ap (λ ks. old ++ flat_map members ks) (sym c.in-Some.ensures.steps)
          ∙ c.loop-k.invariant.0,
      (omega arith, All-tail below c.in-Some.k _ (subst (All below) c.in-Some.ensures.steps c.loop-k.invariant.1.1)),
    )
