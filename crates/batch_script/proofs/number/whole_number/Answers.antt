use Rattle.std.proofs.Common.{◌≢◌, ◌∙◌, ℕ, ◌^◌, ◌<◌, [], ap, sym, length, arith}
use Rattle.std.specs.Fmt.{decimal}
use Rattle.std.proofs.lemmas.Bool.Decides.{nat_tests}
use Rattle.std.proofs.lemmas.List.{append-nil}
use Rattle.batch_script.proofs.FrontFacts.{none_at_end, one_front, where_none}
use Rattle.batch_script.proofs.number.whole_number.Goals as goal

pub returns-in_err-number-clause-none : goal.returns-in_err-number-clause-none
returns-in_err-number-clause-none c =
    where_none _ ((number : ℕ) → number < 2 ^ 64 → c.args.digits.now ≢ decimal number)
    (λ number small is. c.in_err-number.ensures.none number [] small none_at_end (is ∙ sym (append-nil (decimal number))))

pub returns-then-not-is_empty-clause-none : goal.returns-then-not-is_empty-clause-none
returns-then-not-is_empty-clause-none c = λ number small is.
    let read = c.in_ok-number.ensures.some in
    let rest = c.in_ok-number.rest.now in
    let one = one_front c.in_ok-number.number number rest [] read.0 small read.2 none_at_end
    (sym read.1 ∙ (is ∙ sym (append-nil (decimal number)))) in
    let none = ap length one.1 in
    let some : 0 < length rest = grind (arith, nat_tests) in omega (arith, none, some)
