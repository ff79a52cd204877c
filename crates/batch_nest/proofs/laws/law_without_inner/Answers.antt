use Rattle.batch_nest.proofs.LawFacts.{without_inner}
use Rattle.batch_nest.proofs.laws.law_without_inner.Goals as goal

pub returns : goal.returns
returns g c = without_inner
