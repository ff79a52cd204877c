use Rattle.std.proofs.Common.{◌≡◌, ◌≢◌, ℕ, List, ◌++◌, ◌+◌, ◌-◌, ◌*◌, ◌^◌, ◌<◌, ◌≤◌, length, take, drop, get_or, sym, ap, subst, ◌∙◌}
use Rattle.std.proofs.Common.{arith, below_more, length-drop}
use Rattle.std.specs.Prelude.{IsTrue}
use Rattle.std.specs.Fmt.{decimal}
use Rattle.std.specs.Int.{IsInRange}
use Rattle.std.proofs.lemmas.List.{take_rest, take-append-drop, get_or-take, get_or-drop, length-take-le}
use Rattle.batch_script.specs.Reading.{BeginsNumber}
use Rattle.batch_script.specs.Front.{HasNoDigitFirst}
use Rattle.batch_script.proofs.NumberFacts.{EachDigit, begins_decimal, digits_write, value_more}
use Rattle.batch_script.proofs.FrontFacts.{where_none, digits_are, never_too_large}
use Rattle.batch_script.proofs.number.read_number.Goals as goal

pub returns-in_err-number-clause-none : goal.returns-in_err-number-clause-none
returns-in_err-number-clause-none c =
    let l = c.loop-digit in
    let text = c.args.text.now in
    let here = c.in-Some.ensures.some in
    let digit : c.in-Some.digit ≡ get_or text l.end 0 - 48 = omega (arith, here.2) in
    let large = subst (λ n. 2 ^ 64 ≤ n * 10 + (get_or text l.end 0 - 48)) l.invariant.value
    (subst (λ d. 2 ^ 64 ≤ l.number * 10 + d) digit c.in_err-number.ensures.none) in
    where_none _ ((number : ℕ) (rest : List ℕ) → number < 2 ^ 64 → HasNoDigitFirst rest → text ≢ decimal number ++ rest)
    (λ number rest small none is. never_too_large text rest number small none is l.end here.0 l.invariant.each here.1 large)

pub loop-digit-preserved : goal.loop-digit-preserved
loop-digit-preserved c =
    let l = c.loop-digit in
    let text = c.args.text.now in
    let here = c.in-Some.ensures.some in
    let digit : c.in-Some.digit ≡ get_or text l.end 0 - 48 = omega (arith, here.2) in
    let more = c.in_ok-number.ensures.some in record {
      inside = omega (arith, here.0);
      value = more.0 ∙ (ap (λ d. l.number * 10 + d) digit
          ∙ (ap (λ n. n * 10 + (get_or text l.end 0 - 48)) l.invariant.value ∙ sym (value_more text l.end here.0 here.1)));
      small = more.1;
      each = below_more _ _ l.invariant.each here.1;
    }

pub returns-then-not-begins_number-clause-none : goal.returns-then-not-begins_number-clause-none
returns-then-not-begins_number-clause-none c = λ number rest small none is.
    let l = c.loop-digit in
    let text = c.args.text.now in
    let front = digits_are text rest number small none is l.end l.invariant.inside l.invariant.each c.in_default.ensures.none in
    let begins = c.begins_number.ensures.1 (subst BeginsNumber (sym front) (begins_decimal number small)) in absurd (cc)

pub returns-clause-some : goal.returns-clause-some
returns-clause-some c =
    let l = c.loop-digit in
    let text = c.args.text.now in
    let front = take l.end text in
    let long : length front ≡ l.end = length-take-le l.end text l.invariant.inside in
    let begins : IsTrue c.begins_number.result = cc in
    let spelled = c.begins_number.ensures.0 begins in
    let each : EachDigit front = λ i below. subst (IsInRange 48 57) (sym (get_or-take l.end text i 0 (omega (arith, long))))
    (l.invariant.each i (omega (arith, long))) in
    let write = digits_write front l.number spelled.some spelled.leading each l.invariant.value l.invariant.small in
    let e : l.end + 0 ≡ l.end = omega arith in (
      l.invariant.small,
      rw (take_rest text l.end) (sym (take-append-drop l.end text) ∙ ap (λ d. d ++ drop l.end text) write),
      rw (take_rest text l.end) (λ some range. c.in_default.ensures.none (omega (arith, length-drop l.end text))
          (subst (IsInRange 48 57) (get_or-drop l.end text 0 0 ∙ ap (λ i. get_or text i 0) e) range)),
    )
