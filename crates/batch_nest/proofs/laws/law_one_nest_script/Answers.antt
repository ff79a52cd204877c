use Rattle.batch_script.proofs.ScriptFacts.{one_script}
use Rattle.batch_nest.specs.Script.{nest_printing}
use Rattle.batch_nest.proofs.PrintFacts.{nests_told}
use Rattle.batch_nest.proofs.laws.law_one_nest_script.Goals as goal

pub returns : goal.returns
returns c = record { one_script = one_script nest_printing nests_told }
