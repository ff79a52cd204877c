use Rattle.std.proofs.Common.{◌≡◌, ◌-◌, drop, arith, take_all, length-drop, ◌∙◌}
use Rattle.std.proofs.lemmas.Fmt.{IsAscii-decimal}
use Rattle.std.proofs.lemmas.List.{append-nil}
use Rattle.std.proofs.lemmas.Str.{IsUtf8-from_ascii}
use Rattle.std.specs.Fmt.{decimal}
use Rattle.wic_vec.proofs.string.TryString.push_decimal.Goals as goal

pub from_utf8_unchecked-requires : goal.from_utf8_unchecked-requires
from_utf8_unchecked-requires c =
    let w = c.write_digits-start in
    let is : drop w.result w.new.digits ≡ decimal c.args.number = w.ensures.written ∙ append-nil (decimal c.args.number) in
    IsUtf8-from_ascii _
    (rw (take_all (20 - w.result) (drop w.result w.new.digits) (omega (arith, length-drop w.result w.new.digits)), is)
    (IsAscii-decimal c.args.number c.ranges.number.fits))
