use Rattle.batch_nest.proofs.LawFacts.{all_committed}
use Rattle.batch_nest.proofs.laws.law_all_committed.Goals as goal

pub returns : goal.returns
returns g c = all_committed
