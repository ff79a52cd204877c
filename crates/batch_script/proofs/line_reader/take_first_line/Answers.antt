use Rattle.batch_script.specs.Grammar.{line_of}
use Rattle.batch_script.specs.Reading.{listed}
use Rattle.batch_script.proofs.PartedFacts.{stuck_without_parts}
use Rattle.batch_script.proofs.line_reader.take_first_line.Goals as goal

pub returns-in-None-clause-syntax : goal.returns-in-None-clause-syntax
returns-in-None-clause-syntax g c = λ refused.
    let fault = c.in-None.ensures.none in (
      fault.0,
      fault.1,
      fault.2,
      λ lines was. stuck_without_parts g.R.LineReader.printing g.R.LineReader.has_parts lines fault.0 fault.3,
    )

pub returns-in_ok-take-in-Some-clause-ok : goal.returns-in_ok-take-in-Some-clause-ok
returns-in_ok-take-in-Some-clause-ok g c =
    let line = line_of c.in-Some.word.now (listed c.in-Some.numbers) in (
      line,
      c.in-Some.ensures.lines,
      λ lines was. c.in_ok-take-in-Some.ensures.ok lines line c.in-Some.ensures.parts was,
    )
