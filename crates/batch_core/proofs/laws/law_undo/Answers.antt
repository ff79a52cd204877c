use Rattle.batch_core.proofs.BackFacts.{undoing_goes_back}
use Rattle.batch_core.proofs.laws.law_undo.Goals as goal

pub returns : goal.returns
returns g c = undoing_goes_back
