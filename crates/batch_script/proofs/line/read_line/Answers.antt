use Rattle.std.proofs.Common.{subst}
use Rattle.batch_script.specs.Front.{IsCut}
use Rattle.batch_script.specs.Reading.{listed}
use Rattle.batch_script.proofs.CutFacts.{lines-first}
use Rattle.batch_script.proofs.FrontFacts.{where_none}
use Rattle.batch_script.proofs.PartFacts.{lines_read, cut_ends, fault}
use Rattle.batch_script.proofs.line.read_line.Goals as goal

pub returns-in_err-numbers-in-Some-clause-none : goal.returns-in_err-numbers-in-Some-clause-none
returns-in_err-numbers-in-Some-clause-none c =
    let input = c.args.input.now in
    let word = c.split_word.result.0.now in
    let cut = subst (IsCut input word) c.in-Some.ensures.some c.split_word.ensures in
    where_none _ _ (fault input word c.in-Some.text.now cut c.requires c.in_err-numbers-in-Some.ensures.none)

pub returns-in_err-after_line-in-None-clause-none : goal.returns-in_err-after_line-in-None-clause-none
returns-in_err-after_line-in-None-clause-none c =
    absurd (cut_ends c.args.input.now c.split_word.result.0.now c.split_word.result.1.now c.split_word.ensures
    c.in-None.ensures.none c.in_err-after_line-in-None.ensures.none)

pub returns-in_ok-numbers-in-Some-clause-lines : goal.returns-in_ok-numbers-in-Some-clause-lines
returns-in_ok-numbers-in-Some-clause-lines c =
    let input = c.args.input.now in
    let word = c.split_word.result.0.now in
    let cut = subst (IsCut input word) c.in-Some.ensures.some c.split_word.ensures in
    let read = c.in_ok-numbers-in-Some.ensures.some in
    lines_read input word c.in-Some.text.now (listed c.in_ok-numbers-in-Some.numbers) read.0 c.in_ok-numbers-in-Some.later.now
    cut read.1 c.requires

pub returns-in_ok-after_line-in-None-clause-lines : goal.returns-in_ok-after_line-in-None-clause-lines
returns-in_ok-after_line-in-None-clause-lines c =
    lines-first c.args.input.now c.split_word.result.0.now c.split_word.result.1.now c.in_ok-after_line-in-None.field-0.now
    c.split_word.ensures.same c.split_word.ensures.no_feed c.in_ok-after_line-in-None.ensures.some c.requires
