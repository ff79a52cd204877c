use Rattle.batch_script.proofs.RunTextFacts.{one_run}
use Rattle.batch_nest.specs.Script.{nest_bodies}
use Rattle.batch_nest.proofs.laws.law_one_nest_run.Goals as goal

pub returns : goal.returns
returns c = record { one_run = one_run nest_bodies }
