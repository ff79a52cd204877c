use Rattle.batch_nest.proofs.LawFacts.{inner_abort}
use Rattle.batch_nest.proofs.laws.law_inner_abort.Goals as goal

pub returns : goal.returns
returns g c = inner_abort
