use Rattle.batch_core.proofs.CountFacts.{counts_are_enough}
use Rattle.batch_core.proofs.laws.law_counts_are_enough.Goals as goal

pub returns : goal.returns
returns g c = counts_are_enough
