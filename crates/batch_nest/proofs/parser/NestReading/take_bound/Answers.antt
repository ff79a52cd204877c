use Rattle.std.proofs.Common.{[], ap, sym, ◌∙◌}
use Rattle.batch_core.specs.declared.command.End.TheVariants.{Commit}
use Rattle.batch_script.specs.Machine.{batch}
use Rattle.batch_script.specs.Reading.{first_numbers, first_word, listed, started}
use Rattle.batch_nest.specs.declared.nest.NestLine.TheVariants.{Begin as BeginLine}
use Rattle.batch_nest.proofs.ReadingFacts.{no_line_word, show_word, some_number, stuck_in_nest, takes_end_word, takes_parts}
use Rattle.batch_nest.proofs.parser.NestReading.take_bound.Goals as goal

pub returns-in_ok-take_end-in-Some-clause-ok : goal.returns-in_ok-take_end-in-Some-clause-ok
returns-in_ok-take_end-in-Some-clause-ok c =
    let some = c.in-Some.ensures.some in
    takes_end_word c.args.self.now c.take_end.new.self c.in-Some.end c.args.word.now (listed c.args.numbers) some.0 some.1
    c.in_ok-take_end-in-Some.ensures.ok

pub returns-in_ok-take_begin-in-Some-Begin-clause-ok : goal.returns-in_ok-take_begin-in-Some-Begin-clause-ok
returns-in_ok-take_begin-in-Some-Begin-clause-ok c =
    let some = c.in-Some-Begin.ensures.some in
    let is = c.in-Some-Begin.field-0-is in
    takes_parts c.args.self.now c.take_begin.new.self BeginLine c.args.word.now (listed c.args.numbers)
    (some.0 ∙ ap (λ start. first_word (started start)) is) (some.1 ∙ ap (λ start. first_numbers (started start)) is)
    c.in_ok-take_begin-in-Some-Begin.ensures.ok

pub returns-in-Some-Reserve-clause-syntax : goal.returns-in-Some-Reserve-clause-syntax
returns-in-Some-Reserve-clause-syntax c = λ refused lines line has was.
    let self = c.args.self.now in
    let word = c.args.word.now in
    let numbers = listed c.args.numbers in
    let one = c.in-Some-Reserve.ensures.some.1 ∙ ap (λ start. first_numbers (started start)) c.in-Some-Reserve.field-0-is in
    stuck_in_nest self.items.items self.begun lines line word numbers c.requires.some was has
    (no_line_word word numbers c.requires.no_command c.in-None.ensures.none (λ none. absurd (some_number _ numbers one none)))

pub returns-in-Some-Show-clause-syntax : goal.returns-in-Some-Show-clause-syntax
returns-in-Some-Show-clause-syntax c = λ refused lines line has was.
    let self = c.args.self.now in
    let word = c.args.word.now in
    let numbers = listed c.args.numbers in
    let show = c.in-Some-Show.ensures.some.0 ∙ ap (λ start. first_word (started start)) c.in-Some-Show.field-0-is in
    stuck_in_nest self.items.items self.begun lines line word numbers c.requires.some was has
    (no_line_word word numbers c.requires.no_command c.in-None.ensures.none (λ none. show_word word show))

pub returns-in-None-start_of-clause-syntax : goal.returns-in-None-start_of-clause-syntax
returns-in-None-start_of-clause-syntax c = λ refused lines line has was.
    let self = c.args.self.now in
    let word = c.args.word.now in
    let numbers = listed c.args.numbers in
    stuck_in_nest self.items.items self.begun lines line word numbers c.requires.some was has
    (no_line_word word numbers c.requires.no_command c.in-None.ensures.none
    (λ none. c.in-None-start_of.ensures.none (batch [] Commit) (sym none)))
