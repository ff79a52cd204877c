use Rattle.std.proofs.Common.{◌-◌, [], ◌∷◌, drop, arith, take_all, length-drop}
use Rattle.std.proofs.lemmas.Fmt.{IsAscii-decimal}
use Rattle.std.proofs.lemmas.Str.{IsUtf8-from_ascii, IsAscii-append}
use Rattle.std.specs.Fmt.{decimal}
use Rattle.wic_vec.proofs.DigitFacts.{IsAscii-line_feed}
use Rattle.wic_vec.proofs.string.TryString.push_decimal_line.Goals as goal

pub from_utf8_unchecked-requires : goal.from_utf8_unchecked-requires
from_utf8_unchecked-requires c =
    let w = c.write_digits-start in
    IsUtf8-from_ascii _
    (rw (take_all (21 - w.result) (drop w.result w.new.digits) (omega (arith, length-drop w.result w.new.digits)), w.ensures.written)
    (IsAscii-append (decimal c.args.number) (10 ∷ []) (IsAscii-decimal c.args.number c.ranges.number.fits) IsAscii-line_feed))
