use Rattle.std.proofs.Common.{◌≡◌, ◌-◌, ◌≤◌, [], ◌∷◌, ◌++◌, length, drop, arith, ap, ◌∙◌, take_all, length-drop, length-append}
use Rattle.std.proofs.lemmas.Fmt.{IsAscii-decimal}
use Rattle.std.proofs.lemmas.List.{length-take-le}
use borrow.Rule.Slice.PartMut.{put_mid}
use Rattle.std.proofs.lemmas.Str.{IsUtf8-from_ascii, IsUtf8-append, IsAscii-append}
use Rattle.std.specs.Fmt.{decimal}
use Rattle.wic_vec.proofs.DigitFacts.{IsAscii-line_feed, word_written, start_of_digits}
use Rattle.wic_vec.proofs.string.TryString.push_number.Goals as goal

pub overflow_sub-start : goal.overflow_sub-start
overflow_sub-start c =
    let w = c.write_digits-end in
    omega (arith, start_of_digits c.args.number w.result 8 w.new.digits c.ranges.number.fits (omega arith) w.ensures.written)

pub copy_from_slice-requires : goal.copy_from_slice-requires
copy_from_slice-requires c =
    let w = c.write_digits-end in
    let long = start_of_digits c.args.number w.result 8 w.new.digits c.ranges.number.fits (omega arith) w.ensures.written in
    let start = w.result - length c.args.word.now in
    rw c.as_bytes.ensures.value
    (length-take-le (w.result - start) (drop start w.new.digits) (omega (arith, length-drop start w.new.digits, w.ensures.within))
    ∙ omega arith)

pub from_utf8_unchecked-requires : goal.from_utf8_unchecked-requires
from_utf8_unchecked-requires c =
    let w = c.write_digits-end in
    let word = c.args.word.now in
    let long = start_of_digits c.args.number w.result 8 w.new.digits c.ranges.number.fits (omega arith) w.ensures.written in
    let start = w.result - length word in
    let copied : c.copy_from_slice.new.self ≡ word = c.copy_from_slice.ensures.after ∙ c.as_bytes.ensures.value in
    let line = put_mid start (w.result - start) w.new.digits word in
    let is : drop start line ≡ word ++ (decimal c.args.number ++ 10 ∷ []) =
    word_written w.new.digits word w.result (omega (arith, long)) (omega (arith, w.ensures.within))
    ∙ ap (λ rest. word ++ rest) w.ensures.written in
    let size : length (drop start line) ≤ 29 - start =
    omega (
      arith,
      ap length is,
      ap length w.ensures.written,
      length-append word (decimal c.args.number ++ 10 ∷ []),
      length-drop w.result w.new.digits,
      w.ensures.within,
    ) in
    rw (copied, take_all (29 - start) (drop start line) size, is)
    (IsUtf8-append word (decimal c.args.number ++ 10 ∷ []) c.utf8.word (IsUtf8-from_ascii _
    (IsAscii-append (decimal c.args.number) (10 ∷ []) (IsAscii-decimal c.args.number c.ranges.number.fits) IsAscii-line_feed)))
