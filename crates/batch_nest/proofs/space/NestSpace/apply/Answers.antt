use Rattle.batch_nest.specs.Nest.{body_of}
use Rattle.batch_nest.proofs.OutcomeFacts.{abort_leaves, commit_leaves, commit_records, refusal_leaves}
use Rattle.batch_nest.proofs.SpaceFacts.{of_lines}
use Rattle.batch_nest.proofs.space.NestSpace.apply.Goals as goal

pub returns-clause-applied_lines : goal.returns-clause-applied_lines
returns-clause-applied_lines g c = of_lines c.args.nest.lines.items c.requires.balanced c.apply_body.ensures.applied

pub returns-clause-never_oom_within_lines : goal.returns-clause-never_oom_within_lines
returns-clause-never_oom_within_lines g c = of_lines c.args.nest.lines.items c.requires.balanced c.apply_body.ensures.never_oom_within

pub returns-clause-never_refused_within_lines : goal.returns-clause-never_refused_within_lines
returns-clause-never_refused_within_lines g c =
    of_lines c.args.nest.lines.items c.requires.balanced c.apply_body.ensures.never_refused_within

pub returns-clause-commit_leaves : goal.returns-clause-commit_leaves
returns-clause-commit_leaves g c =
    commit_leaves c.args.self.now (body_of c.args.nest.lines.items) c.args.nest.end c.apply_body.result c.apply_body.new.self
    (returns-clause-applied_lines g c)

pub returns-clause-commit_records : goal.returns-clause-commit_records
returns-clause-commit_records g c =
    commit_records c.args.self.now (body_of c.args.nest.lines.items) c.args.nest.end c.apply_body.result c.apply_body.new.self
    (returns-clause-applied_lines g c)

pub returns-clause-refusal_leaves : goal.returns-clause-refusal_leaves
returns-clause-refusal_leaves g c =
    refusal_leaves c.args.self.now (body_of c.args.nest.lines.items) c.args.nest.end c.apply_body.result c.apply_body.new.self
    (returns-clause-applied_lines g c)

pub returns-clause-abort_leaves : goal.returns-clause-abort_leaves
returns-clause-abort_leaves g c =
    abort_leaves c.args.self.now (body_of c.args.nest.lines.items) c.args.nest.end c.apply_body.result c.apply_body.new.self
    (returns-clause-applied_lines g c)
