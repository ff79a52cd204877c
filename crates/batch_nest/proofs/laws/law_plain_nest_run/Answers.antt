use Rattle.batch_script.proofs.PlainRunFacts.{plain_with_room, one_plain_run}
use Rattle.batch_nest.specs.Script.{nest_bodies}
use Rattle.batch_nest.proofs.laws.law_plain_nest_run.Goals as goal

pub returns : goal.returns
returns c = record { plain_run = plain_with_room nest_bodies; one_plain_run = one_plain_run nest_bodies }
