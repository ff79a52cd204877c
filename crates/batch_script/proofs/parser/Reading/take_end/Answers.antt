use Rattle.batch_script.specs.Reading.{begun_in, listed, plain_items}
use Rattle.batch_script.proofs.ReadingFacts.{stuck_in_batch}
use Rattle.batch_script.proofs.parser.Reading.take_end.Goals as goal

pub returns-in_default-clause-syntax : goal.returns-in_default-clause-syntax
returns-in_default-clause-syntax c = λ refused lines line has was.
    let self = c.args.self.now in
    stuck_in_batch (plain_items self.items.items) (begun_in self) lines line c.args.word.now (listed c.args.numbers) was.0 was.1
    has c.requires.no_command c.in_default.ensures.none
