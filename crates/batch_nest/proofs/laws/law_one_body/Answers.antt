use Rattle.batch_nest.proofs.TellFacts.{lines_tell}
use Rattle.batch_nest.proofs.laws.law_one_body.Goals as goal

pub returns : goal.returns
returns g c = lines_tell
