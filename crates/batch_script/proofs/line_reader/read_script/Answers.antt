use Rattle.std.proofs.Common.{◌≡◌, ◌∙◌, take, length, sym, subst, arith, ap, length-drop, Err}
use Rattle.std.proofs.lemmas.Bool.Decides.{nat_tests}
use Rattle.batch_script.specs.Grammar.{lines_of}
use Rattle.batch_script.proofs.OpenFacts.{IsFaultLine-at, IsFaultLine-end, drop_next, no_lines, take_next, take_to_end}
use Rattle.batch_script.specs.declared.line_reader.LineRefusal.TheVariants.{Syntax}
use Rattle.batch_script.proofs.line_reader.read_script.Goals as goal

pub returns-in-Err-Syntax-clause-refusal : goal.returns-in-Err-Syntax-clause-refusal
returns-in-Err-Syntax-clause-refusal g c =
    let inv = c.loop-rest.invariant in
    let lines = lines_of c.args.input.now in
    let count = c.loop-rest.line_number in
    let refused : c.take_first_line.result ≡ Err Syntax = c.in-Err-Syntax.is ∙ ap Err c.in-Err-Syntax.field-0-is in
    let stuck = c.take_first_line.ensures.syntax refused in
    IsFaultLine-at g.R.LineReader.printing c.args.input.now count stuck.0 stuck.1
    (g.R.LineReader.begins_script c.loop-rest.reader (take count lines) inv.read)
    (inv.left ∙ stuck.2) (stuck.3 (take count lines) inv.read)

pub loop-rest-preserved : goal.loop-rest-preserved
loop-rest-preserved g c =
    let inv = c.loop-rest.invariant in
    let lines = lines_of c.args.input.now in
    let count = c.loop-rest.line_number in
    let took = c.in-Ok.ensures.ok in
    let next = inv.left ∙ took.1 in record {
      read = subst (g.R.LineReader.has_read c.take_first_line.new.reader)
          (sym (take_next lines count took.0 (lines_of c.in-Ok.later.now) next))
          (took.2 (take count lines) inv.read);
      left = drop_next lines count took.0 (lines_of c.in-Ok.later.now) next;
      bytes = omega (arith, c.in-Ok.ensures.shorter);
      counted = omega (arith, length-drop count lines, ap length next);
    }

pub returns-in-None-clause-refusal : goal.returns-in-None-clause-refusal
returns-in-None-clause-refusal g c =
    let inv = c.loop-rest.invariant in
    let lines = lines_of c.args.input.now in
    let count = c.loop-rest.line_number in
    let none : length c.loop-rest.rest.now ≡ 0 = grind (arith, nat_tests) in
    let next = inv.left ∙ no_lines c.loop-rest.rest.now none in (
      c.in-None.ensures.none c.args.input.now
          (subst (g.R.LineReader.has_read c.loop-rest.reader) (take_to_end lines count next) inv.read),
      IsFaultLine-end g.R.LineReader.printing c.args.input.now count
          (g.R.LineReader.begins_script c.loop-rest.reader (take count lines) inv.read) next inv.counted,
    )

pub returns-in-Some-clause-script : goal.returns-in-Some-clause-script
returns-in-Some-clause-script g c =
    let inv = c.loop-rest.invariant in
    let lines = lines_of c.args.input.now in
    let count = c.loop-rest.line_number in
    let none : length c.loop-rest.rest.now ≡ 0 = grind (arith, nat_tests) in
    let next = inv.left ∙ no_lines c.loop-rest.rest.now none in
    c.in-Some.ensures.script c.args.input.now
    (subst (g.R.LineReader.has_read c.loop-rest.reader) (take_to_end lines count next) inv.read)
