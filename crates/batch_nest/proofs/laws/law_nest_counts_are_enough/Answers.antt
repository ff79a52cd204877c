use Rattle.batch_nest.proofs.NestCountFacts.{nest_counts_are_enough}
use Rattle.batch_nest.proofs.laws.law_nest_counts_are_enough.Goals as goal

pub returns : goal.returns
returns g c = nest_counts_are_enough
