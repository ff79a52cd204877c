use Rattle.batch_nest.proofs.runner.NestSpaceU64Space.apply.Goals as goal

pub returns-clause-applied : goal.returns-clause-applied
returns-clause-applied c = c.apply.ensures.applied_lines
