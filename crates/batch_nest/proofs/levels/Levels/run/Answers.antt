use Rattle.std.proofs.Common.{[], length, ◌∷◌, refl, sym, ap, ◌∙◌, arith, length-append}
use Rattle.std.specs.Vec.Iter.{into_iter_items}
use Rattle.batch_core.specs.Back.{undo_all}
use Rattle.batch_core.specs.declared.command.End.TheVariants.{Commit, Abort}
use Rattle.batch_nest.specs.declared.nest.NestLine.TheVariants.{Command as CommandLine, Begin as BeginLine}
use Rattle.batch_nest.specs.declared.nest.NestLine.TheVariants.{Commit as CommitLine, Abort as AbortLine}
use Rattle.batch_nest.specs.Nest.{begin_lines, body_of, command_lines}
use Rattle.batch_nest.proofs.CountFacts.{grows_twice, grows_kept}
use Rattle.batch_nest.proofs.CourseFacts.{count_stands}
use Rattle.batch_nest.proofs.NestFacts.{inside_at, inside_first, inside_command, inside_begin, inside_commit, inside_abort}
use Rattle.batch_nest.proofs.NestFacts.{inside_last, inside_refused, mark_for_end, mark_within, pop_found, none_found, no_items}
use Rattle.batch_nest.proofs.levels.Levels.run.Goals as goal

pub loop-line-init : goal.loop-line-init
loop-line-init g c =
    let first = c.args.self.now.workspace in
    let gives = c.into_iter-line-iterator.ensures.into_iter_gives in
    let lines = into_iter_items c.into_iter-line-iterator.result in record {
      inside = λ whole is. inside_first first c.args.self.now.marks.items lines whole c.requires.fresh c.requires.no_marks (gives.0 ∙ is)
          (omega (arith, count_stands first.contents whole, ap command_lines is, c.requires.record_room));
      left = gives.1 ∙ ap length (sym gives.0);
      count = omega arith;
      numbered = omega (arith, ap command_lines gives.0);
      marks = omega (arith, ap length c.requires.no_marks, ap begin_lines gives.0, c.requires.mark_room);
      mark_capacity = refl;
      room = refl;
      grows = record { list = omega arith; set = omega arith; table = omega arith; records = omega arith };
    }

pub returns-in-Err-clause-refused : goal.returns-in-Err-clause-refused
returns-in-Err-clause-refused g c whole is ending =
    let command = c.in-Command.command in
    inside_refused command ending c.in-Err.cause
    (inside_at c.in-Some.line (CommandLine command) (into_iter_items c.next.new.self) c.in-Some.ensures.steps.0 c.in-Command.is
    (c.loop-line.invariant.inside whole is))
    c.mark-mark.ensures.ready c.mark-mark.ensures.within c.in-Err.ensures.cause

pub returns-in-Err-clause-back : goal.returns-in-Err-clause-back
returns-in-Err-clause-back g c =
    let kept = c.in-Err.ensures.refusal_leaves in
    let balanced = c.requires.balanced in
    (λ i. undo_all (kept.records i) (kept.contents i))
    ∙ (c.loop-line.invariant.inside (body_of c.args.lines.items) balanced).along.along.back

pub loop-line-preserved-in_default : goal.loop-line-preserved-in_default
loop-line-preserved-in_default g c =
    let inv = c.loop-line.invariant in
    let command = c.in-Command.command in
    let rest = into_iter_items c.next.new.self in
    let steps = c.in-Some.ensures.steps in
    let split = steps.0 ∙ ap (λ x. x ∷ rest) c.in-Command.is in record {
      inside = λ whole is. inside_command c.step.new.self command
          (inside_at c.in-Some.line (CommandLine command) rest steps.0 c.in-Command.is (inv.inside whole is)) c.mark-mark.ensures.sound
          c.mark-mark.ensures.ready c.in_default.ensures.admitted c.in_default.ensures.done c.step.ensures.room c.step.ensures.grows;
      left = omega (arith, inv.left, steps.1, ap length steps.0);
      count = omega (arith, inv.count, length-append c.loop-line.yielded (c.in-Some.line ∷ []));
      numbered = omega (arith, inv.numbered, ap command_lines split);
      marks = omega (arith, inv.marks, ap begin_lines split);
      mark_capacity = inv.mark_capacity;
      room = c.step.ensures.room ∙ inv.room;
      grows = grows_twice c.args.self.now.workspace c.loop-line.self.workspace c.step.new.self inv.grows c.step.ensures.grows;
    }

pub loop-line-preserved-in-Begin : goal.loop-line-preserved-in-Begin
loop-line-preserved-in-Begin g c =
    let inv = c.loop-line.invariant in
    let rest = into_iter_items c.next.new.self in
    let steps = c.in-Some.ensures.steps in
    let split = steps.0 ∙ ap (λ x. x ∷ rest) c.in-Begin.is in
    let pushed = c.push_reserved.ensures in record {
      inside = λ whole is. inside_begin c.push_reserved.new.self.items c.mark-mark.result
          (inside_at c.in-Some.line BeginLine rest steps.0 c.in-Begin.is (inv.inside whole is)) pushed.last c.mark-mark.ensures.mark;
      left = omega (arith, inv.left, steps.1, ap length steps.0);
      count = omega (arith, inv.count, length-append c.loop-line.yielded (c.in-Some.line ∷ []));
      numbered = omega (arith, inv.numbered, ap command_lines split);
      marks = omega (
        arith,
        inv.marks,
        ap begin_lines split,
        ap length pushed.last,
        length-append c.loop-line.self.marks.items (c.mark-mark.result ∷ []),
        pushed.capacity_stays,
      );
      mark_capacity = pushed.capacity_stays ∙ inv.mark_capacity;
      room = inv.room;
      grows = inv.grows;
    }

pub loop-line-preserved-in-Commit : goal.loop-line-preserved-in-Commit
loop-line-preserved-in-Commit g c =
    let inv = c.loop-line.invariant in
    let old = c.loop-line.self.marks.items in
    let new = c.pop.new.self.items in
    let rest = into_iter_items c.next.new.self in
    let steps = c.in-Some.ensures.steps in
    let split = steps.0 ∙ ap (λ x. x ∷ rest) c.in-Commit.is in
    let balanced = c.requires.balanced in
    let popped = pop_found c.pop.result old new c.pop.ensures.found c.pop.ensures.last
    (mark_for_end Commit (inside_at c.in-Some.line CommitLine rest steps.0 c.in-Commit.is
    (inv.inside (body_of c.args.lines.items) balanced))) in record {
      inside = λ whole is. inside_commit new popped.0
          (inside_at c.in-Some.line CommitLine rest steps.0 c.in-Commit.is (inv.inside whole is)) popped.1;
      left = omega (arith, inv.left, steps.1, ap length steps.0);
      count = omega (arith, inv.count, length-append c.loop-line.yielded (c.in-Some.line ∷ []));
      numbered = omega (arith, inv.numbered, ap command_lines split);
      marks = omega (
        arith,
        inv.marks,
        ap begin_lines split,
        ap length popped.1,
        length-append new (popped.0 ∷ []),
        c.pop.ensures.capacity_stays,
      );
      mark_capacity = c.pop.ensures.capacity_stays ∙ inv.mark_capacity;
      room = inv.room;
      grows = inv.grows;
    }

pub back_to-requires : goal.back_to-requires
back_to-requires g c =
    let balanced = c.requires.balanced in record {
      mark = mark_within c.pop-in-Abort.new.self.items c.in-Some-pop.start
          (inside_at c.in-Some.line AbortLine (into_iter_items c.next.new.self) c.in-Some.ensures.steps.0 c.in-Abort.is
          (c.loop-line.invariant.inside (body_of c.args.lines.items) balanced))
          c.in-Some-pop.ensures.last;
    }

pub loop-line-preserved-in-Some-pop : goal.loop-line-preserved-in-Some-pop
loop-line-preserved-in-Some-pop g c =
    let inv = c.loop-line.invariant in
    let rest = into_iter_items c.next.new.self in
    let new = c.pop-in-Abort.new.self.items in
    let steps = c.in-Some.ensures.steps in
    let split = steps.0 ∙ ap (λ x. x ∷ rest) c.in-Abort.is in
    let popped = c.in-Some-pop.ensures.last in
    let back = c.back_to.ensures in
    let kept = c.pop-in-Abort.ensures.capacity_stays in record {
      inside = λ whole is. inside_abort c.back_to.new.self new c.in-Some-pop.start
          (inside_at c.in-Some.line AbortLine rest steps.0 c.in-Abort.is (inv.inside whole is)) popped back.contents back.records
          back.capacities back.room;
      left = omega (arith, inv.left, steps.1, ap length steps.0);
      count = omega (arith, inv.count, length-append c.loop-line.yielded (c.in-Some.line ∷ []));
      numbered = omega (arith, inv.numbered, ap command_lines split);
      marks = omega (
        arith,
        inv.marks,
        ap begin_lines split,
        ap length popped,
        length-append new (c.in-Some-pop.start ∷ []),
        kept,
      );
      mark_capacity = kept ∙ inv.mark_capacity;
      room = back.room ∙ inv.room;
      grows = grows_kept c.args.self.now.workspace c.loop-line.self.workspace c.back_to.new.self inv.grows back.capacities;
    }

pub loop-line-preserved : goal.loop-line-preserved
loop-line-preserved g c =
    let balanced = c.requires.balanced in
    let here = inside_at c.in-Some.line AbortLine (into_iter_items c.next.new.self) c.in-Some.ensures.steps.0 c.in-Abort.is
    (c.loop-line.invariant.inside (body_of c.args.lines.items) balanced) in
    absurd (none_found c.pop-in-Abort.result c.loop-line.self.marks.items c.in_default-pop.is c.pop-in-Abort.ensures.found
    (mark_for_end Abort here))

pub returns-clause-through : goal.returns-clause-through
returns-clause-through g c whole is =
    let inv = c.loop-line.invariant in
    inside_last (no_items (into_iter_items c.loop-line.line-iterator) (sym inv.left ∙ c.in-None.ensures.steps.0)) (inv.inside whole is)

pub returns-clause-back : goal.returns-clause-back
returns-clause-back g c =
    let balanced = c.requires.balanced in (c.loop-line.invariant.inside (body_of c.args.lines.items) balanced).along.along.back

pub returns-in-Err-clause-at_within : goal.returns-in-Err-clause-at_within
returns-in-Err-clause-at_within g c =
    let split = c.in-Some.ensures.steps.0 ∙ ap (λ x. x ∷ into_iter_items c.next.new.self) c.in-Command.is in
    omega (arith, c.loop-line.invariant.numbered, ap command_lines split)
