use Rattle.batch_script.specs.Machine.{batches}
use Rattle.batch_script.proofs.PlainRunFacts.{plain_with_room, one_plain_run}
use Rattle.batch_script.proofs.laws.law_plain_run.Goals as goal

pub returns : goal.returns
returns c = record { plain_run = plain_with_room batches; one_plain_run = one_plain_run batches }
