use Rattle.std.proofs.Common.{subst, sym}
use Rattle.batch_script.specs.Front.{IsOneLine}
use Rattle.batch_script.specs.Reading.{listed}
use Rattle.batch_script.proofs.CommandFacts.{command_one_line, fault_is_no_command, read_is_command, read_is_no_command}
use Rattle.batch_script.proofs.FrontFacts.{where_none}
use Rattle.batch_script.proofs.parser.parse_command.Goals as goal

pub returns-then-not-is_one_line-clause-none : goal.returns-then-not-is_one_line-clause-none
returns-then-not-is_one_line-clause-none c = λ command valid is.
    let yes = c.is_one_line.ensures.1 (subst IsOneLine (sym is) (command_one_line command valid)) in
    let no = c.if-not-is_one_line.true in
    cc

pub returns-in_err-word-clause-none : goal.returns-in_err-word-clause-none
returns-in_err-word-clause-none c =
    where_none c.from_residual.result _
    (fault_is_no_command c.args.line.now (c.is_one_line.ensures.0 c.if-not-is_one_line.false) c.in_err-word.ensures.none)

pub returns-clause-some : goal.returns-clause-some
returns-clause-some c =
    read_is_command c.args.line.now c.in_ok-word.word.now (listed c.in_ok-word.numbers) _
    (c.is_one_line.ensures.0 c.if-not-is_one_line.false) c.in_ok-word.ensures.lines c.command_of.result c.command_of.ensures.some

pub returns-clause-none : goal.returns-clause-none
returns-clause-none c =
    read_is_no_command c.args.line.now c.in_ok-word.word.now (listed c.in_ok-word.numbers) _
    (c.is_one_line.ensures.0 c.if-not-is_one_line.false) c.in_ok-word.ensures.lines c.in_ok-word.ensures.parts
    c.command_of.result c.command_of.ensures.none
