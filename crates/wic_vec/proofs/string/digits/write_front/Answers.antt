use Rattle.std.proofs.Common.{◌≡◌, ◌+◌, ◌-◌, arith}
use Rattle.std.proofs.lemmas.Fmt.{decimal_digit}
use Rattle.wic_vec.proofs.DigitFacts.{length_one, length_two, decimal_two, one_written}
use Rattle.wic_vec.proofs.string.digits.write_front.Goals as goal

pub overflow_sub-end : goal.overflow_sub-end
overflow_sub-end c = omega (arith, length_two c.args.number c.if-number-ge10.true c.requires.number, c.requires.room)

pub write_pair-requires-clause-inside : goal.write_pair-requires-clause-inside
write_pair-requires-clause-inside c =
    omega (arith, length_two c.args.number c.if-number-ge10.true c.requires.number, c.requires.room, c.requires.inside)

pub overflow_sub-result : goal.overflow_sub-result
overflow_sub-result c = omega (arith, length_two c.args.number c.if-number-ge10.true c.requires.number, c.requires.room)

pub returns-then-number-ge10-clause-written : goal.returns-then-number-ge10-clause-written
returns-then-number-ge10-clause-written c =
    let long = length_two c.args.number c.if-number-ge10.true c.requires.number in
    let end : c.args.end - 2 + 2 ≡ c.args.end = omega (arith, c.requires.room) in
    rw (c.write_pair.ensures.written, end, decimal_two c.args.number c.if-number-ge10.true c.requires.number)

pub overflow_sub-digits : goal.overflow_sub-digits
overflow_sub-digits c = omega (arith, length_one c.args.number c.if-number-ge10.false, c.requires.room)

pub bounds-digits-end : goal.bounds-digits-end
bounds-digits-end c = omega (arith, length_one c.args.number c.if-number-ge10.false, c.requires.room, c.requires.inside)

pub overflow_sub-result-2 : goal.overflow_sub-result-2
overflow_sub-result-2 c = omega (arith, length_one c.args.number c.if-number-ge10.false, c.requires.room)

pub returns-clause-written : goal.returns-clause-written
returns-clause-written c =
    let long = length_one c.args.number c.if-number-ge10.false in
    rw (
      one_written c.args.digits.now c.args.end (48 + c.args.number) (omega (arith, c.requires.room)) c.requires.inside,
      decimal_digit c.args.number c.if-number-ge10.false,
    )
