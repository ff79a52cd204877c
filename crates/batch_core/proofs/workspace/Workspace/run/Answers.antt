use Rattle.std.proofs.Common.{rules, ◌≡◌, ◌+◌, ◌∷◌, ◌++◌, [], refl, sym, ap, subst, ◌∙◌, arith, append_assoc, length, length-append, ◌≤◌}
use Rattle.std.specs.Vec.Iter.{into_iter_items}
use Rattle.batch_core.specs.Course.{batch_course}
use Rattle.batch_core.specs.declared.command.End.TheVariants.{Commit}
use Rattle.batch_core.proofs.CourseFacts.{batch_course-length}
use Rattle.batch_core.proofs.RunFacts.{IsAlong, along_start, along_step, along_refused, never_refused, never_refused_at_all}
use Rattle.batch_core.proofs.workspace.Workspace.run.Goals as goal

pub returns-in-Err-clause-refused : goal.returns-in-Err-clause-refused
returns-in-Err-clause-refused g c ending =
    let l = c.loop-command in
    let start = c.args.self.now in
    let whole = batch_course start.contents c.args.commands.items in
    let rest = into_iter_items c.next.new.self in
    let places = length c.args.commands.items in
    let along = subst (λ left. IsAlong whole start l.self (batch_course l.self.contents left) l.at) c.in-Some.ensures.steps.0
    l.invariant.along in
    along_refused places whole start l.self c.in-Some.command (batch_course _ rest) ending l.at c.in-Err.cause along
    c.mark.ensures.ready c.mark.ensures.within c.in-Err.ensures.cause

pub returns-in-Err-clause-never_oom_within : goal.returns-in-Err-clause-never_oom_within
returns-in-Err-clause-never_oom_within g c fits =
    let start = c.args.self.now in
    let places = length c.args.commands.items in
    never_refused start.room places start.contents (batch_course start.contents c.args.commands.items) Commit c.in-Err.cause
    (c.loop-command.at + 1) (returns-in-Err-clause-refused g c Commit) fits

pub returns-in-Err-clause-never_refused_within : goal.returns-in-Err-clause-never_refused_within
returns-in-Err-clause-never_refused_within g c fits none =
    let start = c.args.self.now in
    let course = batch_course start.contents c.args.commands.items in
    absurd (never_refused_at_all start.room (length c.args.commands.items) start.contents course Commit c.in-Err.cause
    (c.loop-command.at + 1) (returns-in-Err-clause-refused g c Commit) fits none)

pub loop-command-init : goal.loop-command-init
loop-command-init g c =
    let start = c.args.self.now in
    let whole = batch_course start.contents c.args.commands.items in
    let items : c.args.commands.items ≡ into_iter_items c.into_iter-command-iterator.result = search rules in
    let enough : length whole.stands ≤ start.capacities.records =
    omega (arith, batch_course-length start.contents c.args.commands.items, c.requires.room) in
    record {
      along = subst (λ left. IsAlong whole start start (batch_course start.contents left) 0) items
          (along_start whole start c.requires.fresh enough);
      split = sym items;
      left = search rules;
      count = refl;
    }

pub loop-command-preserved : goal.loop-command-preserved
loop-command-preserved g c =
    let l = c.loop-command in
    let command = c.in-Some.command in
    let steps = c.in-Some.ensures.steps in
    let rest = into_iter_items c.next.new.self in
    let start = c.args.self.now in
    let whole = batch_course start.contents c.args.commands.items in
    let short = ap length steps.0 in
    let along = subst (λ left. IsAlong whole start l.self (batch_course l.self.contents left) l.at) steps.0 l.invariant.along in record {
      along = along_step whole start l.self c.step.new.self command (λ contents. batch_course contents rest) l.at along
          c.mark.ensures.ready c.mark.ensures.sound c.in_default.ensures.admitted c.in_default.ensures.done c.step.ensures.room
          c.step.ensures.grows;
      split = append_assoc l.yielded (command ∷ []) rest ∙ ap (λ r. l.yielded ++ r) (sym steps.0) ∙ l.invariant.split;
      left = omega (arith, l.invariant.left, steps.1, short);
      count = omega (arith, l.invariant.count, length-append l.yielded (command ∷ []));
    }
