use Rattle.std.proofs.Common.{◌≡◌, ℕ, ◌+◌, ◌-◌, ◌^◌, ◌<◌, ◌≤◌, length, refl, arith, append_assoc}
use Rattle.std.proofs.lemmas.Fmt.{length-decimal-le}
use Rattle.std.specs.Fmt.{decimal}
use Rattle.wic_vec.proofs.DigitFacts.{decimal_more, length_more}
use Rattle.wic_vec.proofs.string.digits.write_digits.Goals as goal

-- no number has more digits than 20
short : (number : ℕ) → number < 2 ^ 64 → length (decimal number) ≤ 20
short number small =
    let below : number < 10 ^ 20 = omega (arith, small) in length-decimal-le 20 number (omega arith) below small

pub loop-left-init : goal.loop-left-init
loop-left-init c = record {
  room = omega arith;
  inside = omega arith;
  written = refl;
}

pub overflow_sub-start : goal.overflow_sub-start
overflow_sub-start c =
    let l = c.loop-left in
    omega (
      arith,
      length_more l.left c.loop-left-test.true l.auto.left-fits.fits,
      l.invariant.room,
      c.requires.room,
      short c.args.number c.ranges.number.fits,
    )

pub loop-left-preserved : goal.loop-left-preserved
loop-left-preserved c =
    let l = c.loop-left in
    let long = length_more l.left c.loop-left-test.true l.auto.left-fits.fits in
    let few = short c.args.number c.ranges.number.fits in
    let place : l.start - 2 + 2 ≡ l.start = omega (arith, l.invariant.room, c.requires.room) in record {
      room = omega (arith, l.invariant.room, c.requires.room);
      inside = omega (arith, l.invariant.inside);
      written = rw (c.write_pair.ensures.written, place)
          (rw (decimal_more l.left c.loop-left-test.true l.auto.left-fits.fits, append_assoc) at l.invariant.written);
    }

pub write_front-requires-clause-room : goal.write_front-requires-clause-room
write_front-requires-clause-room c =
    omega (arith, c.loop-left.invariant.room, c.requires.room, short c.args.number c.ranges.number.fits)
