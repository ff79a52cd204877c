use Rattle.batch_nest.proofs.SpaceFacts.{balanced_by_body}
use Rattle.batch_nest.proofs.laws.law_balanced.Goals as goal

pub returns : goal.returns
returns g c = balanced_by_body
