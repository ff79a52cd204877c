use Rattle.batch_script.specs.Machine.{batches}
use Rattle.batch_script.proofs.RunTextFacts.{one_run}
use Rattle.batch_script.proofs.laws.law_one_run.Goals as goal

pub returns : goal.returns
returns c = record { one_run = one_run batches }
