use Rattle.std.proofs.Common.{◌≡◌, ◌-◌, length, refl, arith}
use Rattle.std.specs.Fmt.{decimal}
use Rattle.wic_error.proofs.TextFacts.{one_digit, two_digits, three_digits, four_digits, many_digits}
use Rattle.wic_error.proofs.report.blanks_before.Goals as goal

pub returns-in-0-to-9 : goal.returns-in-0-to-9
returns-in-0-to-9 c = rw (one_digit c.args.number (omega arith)) record { blanks = refl }

pub returns-in-10-to-99 : goal.returns-in-10-to-99
returns-in-10-to-99 c = rw (two_digits c.args.number (omega arith) (omega arith)) record { blanks = refl }

pub returns-in-100-to-999 : goal.returns-in-100-to-999
returns-in-100-to-999 c = rw (three_digits c.args.number (omega arith) (omega arith)) record { blanks = refl }

pub returns-in-1000-to-9999 : goal.returns-in-1000-to-9999
returns-in-1000-to-9999 c = rw (four_digits c.args.number (omega arith) (omega arith)) record { blanks = refl }

pub returns-in_default : goal.returns-in_default
returns-in_default c =
    let many = many_digits c.args.number (omega arith) c.ranges.number.fits in
    let none : 5 - length (decimal c.args.number) ≡ 0 = omega arith in
    rw none record { blanks = refl }
