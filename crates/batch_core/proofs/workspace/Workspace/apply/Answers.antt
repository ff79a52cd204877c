use Rattle.std.proofs.Common.{rules, arith}
use Rattle.batch_core.proofs.workspace.Workspace.apply.Goals as goal

pub returns-in-Err-clause-applied : goal.returns-in-Err-clause-applied
returns-in-Err-clause-applied g c = (c.in-Err.ensures.contents, c.in-Err.ensures.records, search rules)

pub returns-in-Err-clause-never_oom_within : goal.returns-in-Err-clause-never_oom_within
returns-in-Err-clause-never_oom_within g c fits =
    absurd (omega (arith, (returns-in-Err-clause-applied g c).2, fits.few))

pub returns-in-Err-clause-never_refused_within : goal.returns-in-Err-clause-never_refused_within
returns-in-Err-clause-never_refused_within g c fits none =
    absurd (omega (arith, (returns-in-Err-clause-applied g c).2, fits.few))
