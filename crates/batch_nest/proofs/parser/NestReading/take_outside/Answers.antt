use Rattle.std.proofs.Common.{[], ◌∷◌, ◌++◌, None, ap, sym, subst, ◌∙◌}
use Rattle.batch_script.specs.Reading.{first_numbers, first_word, listed, started}
use Rattle.batch_nest.specs.Reading.{HaveRead}
use Rattle.batch_nest.proofs.ReadingFacts.{read_reserve, read_show, stuck_outside_nests}
use Rattle.batch_nest.proofs.parser.NestReading.take_outside.Goals as goal

pub returns-in-None-clause-syntax : goal.returns-in-None-clause-syntax
returns-in-None-clause-syntax c = λ refused lines line has was.
    let items = c.args.self.now.items.items in
    stuck_outside_nests items lines line c.args.word.now (listed c.args.numbers)
    (subst (λ begun. HaveRead items begun lines) c.requires.none was) has c.in-None.ensures.none

pub returns-in_ok-push-in-Some-Reserve-clause-ok : goal.returns-in_ok-push-in-Some-Reserve-clause-ok
returns-in_ok-push-in-Some-Reserve-clause-ok c = λ lines line has was.
    let items = c.args.self.now.items.items in
    let some = c.in-Some-Reserve.ensures.some in
    let is = c.in-Some-Reserve.field-0-is in
    subst (λ begun. HaveRead c.push.new.self.items begun (lines ++ line ∷ [])) (sym c.requires.none)
    (subst (λ items. HaveRead items None (lines ++ line ∷ [])) (sym c.in_ok-push-in-Some-Reserve.ensures.last)
    (read_reserve items c.in-Some-Reserve.number lines line c.args.word.now (listed c.args.numbers)
    (subst (λ begun. HaveRead items begun lines) c.requires.none was) has
    (some.0 ∙ ap (λ start. first_word (started start)) is) (some.1 ∙ ap (λ start. first_numbers (started start)) is)))

pub returns-in_ok-push-in-Some-Show-clause-ok : goal.returns-in_ok-push-in-Some-Show-clause-ok
returns-in_ok-push-in-Some-Show-clause-ok c = λ lines line has was.
    let items = c.args.self.now.items.items in
    let some = c.in-Some-Show.ensures.some in
    let is = c.in-Some-Show.field-0-is in
    subst (λ begun. HaveRead c.push-in-Some-Show.new.self.items begun (lines ++ line ∷ [])) (sym c.requires.none)
    (subst (λ items. HaveRead items None (lines ++ line ∷ [])) (sym c.in_ok-push-in-Some-Show.ensures.last)
    (read_show items lines line c.args.word.now (listed c.args.numbers)
    (subst (λ begun. HaveRead items begun lines) c.requires.none was) has
    (some.0 ∙ ap (λ start. first_word (started start)) is) (some.1 ∙ ap (λ start. first_numbers (started start)) is)))
