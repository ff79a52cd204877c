use Rattle.batch_script.specs.Grammar.{batch_printing}
use Rattle.batch_script.proofs.ScriptFacts.{batches_told, one_script}
use Rattle.batch_script.proofs.laws.law_one_script.Goals as goal

pub returns : goal.returns
returns c = record { one_script = one_script batch_printing batches_told }
