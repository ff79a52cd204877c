use Rattle.std.proofs.Common.{map, sym, subst}
use Rattle.batch_script.specs.Grammar.{IsScriptOfOver}
use Rattle.batch_nest.specs.Script.{nest_printing}
use Rattle.batch_nest.specs.Space.{plain_nest_item}
use Rattle.batch_nest.proofs.SpaceFacts.{same_items}
use Rattle.batch_nest.proofs.runner.nest_run.Goals as goal

pub run_items-requires : goal.run_items-requires
run_items-requires c =
    let read = c.in_ok-script.ensures.script in record { may_run = (same_items c.in_ok-script.script.items.items read.0 read.1).1 }

pub returns-clause-text : goal.returns-clause-text
returns-clause-text c =
    let items = c.in_ok-script.script.items.items in
    let read = c.in_ok-script.ensures.script in
    let same = same_items items read.0 read.1 in (
      map plain_nest_item items,
      subst (IsScriptOfOver nest_printing c.args.input.now) (sym same.0) read.2,
      c.in_ok-run_items.ensures.text,
    )
