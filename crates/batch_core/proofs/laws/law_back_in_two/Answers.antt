use Rattle.batch_core.proofs.BackFacts.{going_back_in_two}
use Rattle.batch_core.proofs.laws.law_back_in_two.Goals as goal

pub returns : goal.returns
returns g c = going_back_in_two
