use Rattle.std.proofs.Common.{refl, subst}
use Rattle.std.specs.Prelude.{option_map}
use Rattle.std.proofs.lemmas.Result.{on_ok_weaker}
use Rattle.batch_script.specs.Reading.{AreRead, plain_items}
use Rattle.batch_script.proofs.parser.ReadingLineReader.take.Goals as goal

pub returns-in-None-clause-ok : goal.returns-in-None-clause-ok
returns-in-None-clause-ok c =
    let items = plain_items c.args.self.now.items.items in
    on_ok_weaker c.take_outside.result
    (λ goes lines line has was. goes lines line has (
      c.in-None.is,
      subst (λ begun. AreRead items (option_map (λ commands. commands.items) begun) lines) c.in-None.is was,
    ))
    c.take_outside.ensures.ok

pub returns-in-None-command_of-clause-ok : goal.returns-in-None-command_of-clause-ok
returns-in-None-command_of-clause-ok c =
    let items = plain_items c.args.self.now.items.items in
    on_ok_weaker c.take_end.result
    (λ goes lines line has was. goes lines line has (
      refl,
      subst (λ begun. AreRead items (option_map (λ commands. commands.items) begun) lines) c.in-Some.is was,
    ))
    c.take_end.ensures.ok
