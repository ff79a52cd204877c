use Rattle.std.proofs.Common.{subst}
use Rattle.std.proofs.lemmas.Result.{IfOk-weaker}
use Rattle.batch_script.specs.Grammar.{IsScriptOf}
use Rattle.batch_script.proofs.parser.parse.Goals as goal

pub returns-clause-script : goal.returns-clause-script
returns-clause-script c =
    IfOk-weaker c.read_script.result _ _ (λ script read. subst (IsScriptOf c.args.input.now) read.1 read.2) c.read_script.ensures.script
