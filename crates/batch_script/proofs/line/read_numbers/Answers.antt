use Rattle.batch_script.proofs.FrontFacts.{where_none}
use Rattle.batch_script.proofs.PartFacts.{no_first, no_end, no_second, no_last}
use Rattle.batch_script.proofs.line.read_numbers.Goals as goal

pub returns-in_err-first-clause-none : goal.returns-in_err-first-clause-none
returns-in_err-first-clause-none c = where_none _ _ (no_first c.args.text.now c.in_err-first.ensures.none)

pub returns-in_err-second-in-Some-clause-none : goal.returns-in_err-second-in-Some-clause-none
returns-in_err-second-in-Some-clause-none c =
    let first = c.in_ok-first.ensures.some in
    where_none _ _ (no_second c.args.text.now c.in_ok-first.rest.now c.in_ok-first.first first.0 first.2 first.1
    c.in-Some.more.now c.in-Some.ensures.some c.in_err-second-in-Some.ensures.none)

pub returns-in_err-after_line-in-Some-clause-none : goal.returns-in_err-after_line-in-Some-clause-none
returns-in_err-after_line-in-Some-clause-none c =
    let first = c.in_ok-first.ensures.some in
    let second = c.in_ok-second-in-Some.ensures.some in
    where_none _ _ (no_last c.args.text.now c.in_ok-first.rest.now c.in_ok-first.first first.0 first.2 first.1
    c.in-Some.more.now c.in_ok-second-in-Some.end.now c.in_ok-second-in-Some.second c.in-Some.ensures.some
    second.0 second.2 second.1 c.in_err-after_line-in-Some.ensures.none)

pub returns-in_err-after_line-in-None-clause-none : goal.returns-in_err-after_line-in-None-clause-none
returns-in_err-after_line-in-None-clause-none c =
    let first = c.in_ok-first.ensures.some in
    where_none _ _ (no_end c.args.text.now c.in_ok-first.rest.now c.in_ok-first.first first.0 first.2 first.1
    c.in-None.ensures.none c.in_err-after_line-in-None.ensures.none)
