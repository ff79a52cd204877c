use Rattle.std.proofs.Common.{subst}
use Rattle.batch_script.specs.Grammar.{lines_of}
use Rattle.batch_nest.specs.Reading.{HaveRead}
use Rattle.batch_nest.proofs.ReadingFacts.{begun_is_none}
use Rattle.batch_nest.proofs.parser.NestReadingLineReader.finish.Goals as goal

pub returns-in-Some-clause-none : goal.returns-in-Some-clause-none
returns-in-Some-clause-none c = λ input was.
    let items = c.args.self.items.items in
    begun_is_none items c.in-Some.field-0 input (subst (λ begun. HaveRead items begun (lines_of input)) c.in-Some.is was)
