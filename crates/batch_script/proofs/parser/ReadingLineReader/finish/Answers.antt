use Rattle.std.proofs.Common.{refl, sym, subst}
use Rattle.std.specs.Prelude.{IsSome, option_map}
use Rattle.batch_script.specs.Grammar.{batch_printing, lines_of}
use Rattle.batch_script.specs.Reading.{AreRead, begun_in, plain_items}
use Rattle.batch_script.proofs.ReadingFacts.{begun-IsScript, read_is_script}
use Rattle.batch_script.proofs.parser.ReadingLineReader.finish.Goals as goal

pub returns-in-None-clause-script : goal.returns-in-None-clause-script
returns-in-None-clause-script c = λ input was.
    let items = plain_items c.args.self.items.items in (
      items,
      refl,
      read_is_script batch_printing batch_printing items input
          (subst (λ begun. AreRead items (option_map (λ commands. commands.items) begun) (lines_of input)) c.in-None.is was),
    )

pub returns-in-Some-clause-none : goal.returns-in-Some-clause-none
returns-in-Some-clause-none c = λ input was.
    let self = c.args.self in
    let some = subst (λ begun. IsSome (option_map (λ commands. commands.items) begun)) (sym c.in-Some.is) refl in
    begun-IsScript (plain_items self.items.items) (begun_in self) input some was
