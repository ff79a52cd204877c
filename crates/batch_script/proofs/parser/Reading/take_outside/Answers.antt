use Rattle.batch_script.specs.Grammar.{batch_printing}
use Rattle.batch_script.specs.Reading.{listed, plain_items}
use Rattle.batch_script.proofs.ReadingFacts.{stuck_outside, parts_start_none}
use Rattle.batch_script.proofs.ScriptFacts.{batches_told}
use Rattle.batch_script.proofs.parser.Reading.take_outside.Goals as goal

pub returns-in-None-clause-syntax : goal.returns-in-None-clause-syntax
returns-in-None-clause-syntax c = λ refused lines line has was.
    stuck_outside batch_printing batch_printing batches_told (plain_items c.args.self.now.items.items) lines was.1 line
    (parts_start_none batch_printing line c.args.word.now (listed c.args.numbers) has c.in-None.ensures.none)
