use Rattle.liveness.proofs.LiveFacts.{flow}
use Rattle.liveness.proofs.laws.law_flow.Goals as goal

pub returns : goal.returns
returns c = flow
