use Rattle.std.proofs.Common.{Some, refl, subst}
use Rattle.batch_script.specs.Reading.{listed}
use Rattle.batch_nest.specs.declared.nest.NestLine.TheVariants.{Command as CommandLine}
use Rattle.batch_nest.specs.declared.parser.OpenNest.{OpenNest}
use Rattle.batch_nest.specs.Reading.{HaveRead}
use Rattle.batch_nest.proofs.LineFacts.{step_command}
use Rattle.batch_nest.proofs.OpenFacts.{open_line}
use Rattle.batch_nest.proofs.ReadingFacts.{read_nest_line, takes_parts}
use Rattle.batch_nest.proofs.parser.NestReadingLineReader.take.Goals as goal

pub returns-in_ok-push-in-Some-command_of-clause-ok :
    goal.returns-in_ok-push-in-Some-command_of-clause-ok
returns-in_ok-push-in-Some-command_of-clause-ok c =
    let self = c.args.self.now in
    let items = self.items.items in
    let begun = c.in-Some.begun in
    let command = c.in-Some-command_of.command in
    let known = CommandLine command in
    let some = c.in-Some-command_of.ensures.some in
    let next : OpenNest = record { lines = c.push.new.self; depth = begun.depth } in
    takes_parts self (record { items = self.items; begun = Some next }) known c.args.word.now (listed c.args.numbers) some.0 some.1
    (λ lines valid was. read_nest_line items begun next lines known (subst (λ begun. HaveRead items begun lines) c.in-Some.is was) valid
    c.in_ok-push-in-Some-command_of.ensures.last
    (open_line begun.lines.items begun.depth begun.depth known (step_command known begun.depth command refl)))

pub returns-in-None-command_of-clause-syntax : goal.returns-in-None-command_of-clause-syntax
returns-in-None-command_of-clause-syntax c = λ refused lines line has was.
    c.take_bound.ensures.syntax refused lines line has
    (subst (λ begun. HaveRead c.args.self.now.items.items begun lines) c.in-Some.is was)
