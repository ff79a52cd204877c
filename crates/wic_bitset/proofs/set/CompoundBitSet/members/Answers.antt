use Rattle.std.proofs.Common.{ℕ, ◌++◌, ◌<◌, length, length-append, append-nil, sym, ap, subst, ◌∙◌, arith}
use Rattle.std.specs.Prelude.{All}
use Rattle.std.specs.Int.{div_ceil}
use Rattle.std.specs.List.{flat_map}
use Rattle.std.proofs.lemmas.List.{append_assoc}
use Rattle.std.proofs.lemmas.List.Elements.{All-head, All-tail}
use Rattle.wic_bitset.specs.Summary.{block_members, block_words, filled_words, summary_width}
use Rattle.wic_bitset.proofs.BlockFacts.{members_by_blocks, words_by_blocks}
use Rattle.wic_bitset.proofs.DivisionFacts.{div_ceil-wider}
use Rattle.wic_bitset.proofs.RisingFacts.{length-rising}
use Rattle.wic_bitset.proofs.set.CompoundBitSet.members.Goals as goal

pub loop-s-init : goal.loop-s-init
loop-s-init g c =
    let w = g.T.ScalarBitSetStorage.width in
    let some = g.T.ScalarBitSetStorage.width_within.positive in
    let digits : 0 < summary_width = omega arith in
    let wider = div_ceil-wider summary_width w c.args.self.now.words some g.T.ScalarBitSetStorage.width_within.within in
    let s = c.args.self.now.members in
    let given = c.into_iter-s-iterator.ensures.into_iter_gives ∙ c.blocks-s-items.ensures.blocks in
    let long = ap length (ap (flat_map (block_words w summary_width s)) given ∙ words_by_blocks w summary_width s digits) in
    let few = c.blocks-s-items.ensures.few in record {
      listed = ap (λ xs. xs ++ flat_map (block_members w summary_width s) c.into_iter-s-iterator.result) c.new-list.ensures.empty
          ∙ ap (flat_map (block_members w summary_width s)) given ∙ members_by_blocks w summary_width s some digits;
      looks = omega (arith, long, length-rising (filled_words w s), ap length c.into_iter-s-iterator.ensures.into_iter_gives);
      within = subst (All (λ b. b < div_ceil c.args.self.now.words summary_width)) (sym c.into_iter-s-iterator.ensures.into_iter_gives)
          c.blocks-s-items.ensures.within;
    }

pub push_block-requires : goal.push_block-requires
push_block-requires g c =
    let below = λ (b : ℕ). b < div_ceil c.args.self.now.words summary_width in
    All-head below c.in-Some.s _ (subst (All below) c.in-Some.ensures.steps c.loop-s.invariant.within)

pub loop-s-preserved : goal.loop-s-preserved
loop-s-preserved g c =
    let w = g.T.ScalarBitSetStorage.width in
    let s = c.args.self.now.members in
    let members = block_members w summary_width s in
    let words = block_words w summary_width s in
    let below = λ (b : ℕ). b < div_ceil c.args.self.now.words summary_width in
    let old = c.loop-s.list.items in
    let rest = flat_map members c.next.new.self in
    let shorter = ap length c.in-Some.ensures.steps in
    let fewer = ap (λ bs. length (flat_map words bs)) c.in-Some.ensures.steps in
    let looks = c.in_ok-push_block.ensures.looks in
    let before = c.loop-s.invariant.looks in record {
      listed = ap (λ xs. xs ++ rest) c.in_ok-push_block.ensures.members
          ∙ append_assoc old (members c.in-Some.s) rest
          ∙ ap (λ bs. old ++ flat_map members bs) (sym c.in-Some.ensures.steps)
          ∙ c.loop-s.invariant.listed;
      looks = omega (arith, length-append (words c.in-Some.s) (flat_map words c.next.new.self));
      within = All-tail below c.in-Some.s _ (subst (All below) c.in-Some.ensures.steps c.loop-s.invariant.within);
    }

pub returns-in_err-push_block-clause-looks : goal.returns-in_err-push_block-clause-looks
returns-in_err-push_block-clause-looks g c =
    let words = block_words g.T.ScalarBitSetStorage.width summary_width c.args.self.now.members in
    let shorter = ap length c.in-Some.ensures.steps in
    let fewer = ap (λ bs. length (flat_map words bs)) c.in-Some.ensures.steps in
    let looks = c.in_err-push_block.ensures.looks in
    let before = c.loop-s.invariant.looks in
    omega (arith, length-append (words c.in-Some.s) (flat_map words c.next.new.self))

pub returns-clause-looks : goal.returns-clause-looks
returns-clause-looks g c = omega (arith, c.loop-s.invariant.looks)

pub returns-clause-members : goal.returns-clause-members
returns-clause-members g c =
    let members = block_members g.T.ScalarBitSetStorage.width summary_width c.args.self.now.members in
    let old = c.loop-s.list.items in
    sym (append-nil old) ∙ ap (λ bs. old ++ flat_map members bs) (sym c.in-None.ensures.steps.0) ∙ c.loop-s.invariant.listed
