use Rattle.std.proofs.Common.{refl, sym, subst, ◌∙◌, arith}
use Rattle.wic_bitset.specs.Combination.{HasWordsFor}
use Rattle.wic_bitset.proofs.CombinationFacts.{combines_all, combines_more, combines_none, tells_changed, tells_unchanged, word_within}
use Rattle.wic_bitset.proofs.marked.combine_marked.Goals as goal
use Rattle.wic_bitset.proofs.marked.combine_marked.Goals.{then-combine_marked_word, else-combine_marked_word}

pub loop-k-init : goal.loop-k-init
loop-k-init g c = record {
  members = combines_none g.T.ScalarBitSetStorage.width c.args.how _ _;
  changed = refl;
  marks = c.requires.marks;
  within = omega arith;
  count = refl;
  room = refl;
  marks_room = refl;
}

pub combine_marked_word-requires-clause-within : goal.combine_marked_word-requires-clause-within
combine_marked_word-requires-clause-within g c =
    let w = g.T.ScalarBitSetStorage.width in
    let was = c.loop-k.invariant in
    word_within w _ _ _ _ _ _ was.marks c.requires.other_marks c.args.how
    (subst (HasWordsFor w c.args.how c.args.other.now.members) (sym was.count) c.requires.within) c.in-Some.k c.in-Some.ensures.member

pub loop-k-preserved : goal.loop-k-preserved
loop-k-preserved g c =
    let w = g.T.ScalarBitSetStorage.width in
    let how = c.args.how in
    let was = c.loop-k.invariant in
    let next = c.in-Some.ensures in
    let word = c.combine_marked_word.ensures in
    let within = word_within w _ _ _ _ _ _ was.marks c.requires.other_marks how
    (subst (HasWordsFor w how c.args.other.now.members) (sym was.count) c.requires.within) c.in-Some.k next.member in
    record {
      members = combines_more w _ _ _ _ _ _ was.marks c.requires.other_marks how c.loop-k.next _ was.members c.in-Some.k _ next
          word.members;
      changed = elim c.if-combine_marked_word.branch [
        | then-combine_marked_word b ↦ tells_changed w how _ _ _ _ _ _ next.from was.members word.members _ _ _
            b.if-combine_marked_word.true b.changed-is was.changed word.changed
        | else-combine_marked_word b ↦ tells_unchanged w how _ _ _ _ _ _ next.from was.members word.members _ _ _
            b.if-combine_marked_word.false b.changed-is was.changed word.changed
      ];
      marks = word.marks;
      within = omega (arith, within, was.count);
      count = word.count ∙ was.count;
      room = word.room ∙ was.room;
      marks_room = word.marks_room ∙ was.marks_room;
    }

pub returns-clause-members : goal.returns-clause-members
returns-clause-members g c =
    let was = c.loop-k.invariant in
    combines_all g.T.ScalarBitSetStorage.width _ _ _ _ _ _ was.marks c.requires.other_marks c.args.how c.loop-k.next _ was.members
    c.in_default.ensures
