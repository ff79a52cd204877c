-- Digits and the numbers that they write.
use Rattle.std.proofs.Common.{◌≡◌, ◌≢◌, ℕ, ◌+◌, ◌-◌, ◌*◌, ◌^◌, ◌<◌, ◌≤◌, List, [], ◌∷◌, length, take, get_or, refl, sym, ap, subst, ◌∙◌}
use Rattle.std.proofs.Common.{arith, zero, suc}
use Rattle.std.specs.Char.{digit_value}
use Rattle.std.specs.Fmt.{decimal}
use Rattle.std.specs.Int.{IsInRange}
use Rattle.std.specs.Str.Parse.{digits_value}
use Rattle.std.proofs.lemmas.Bool.Decides.{nat_tests}
use Rattle.batch_script.specs.Reading.{BeginsNumber}
use Rattle.std.proofs.lemmas.Int.Digits.{digits_value_more}
use Rattle.std.proofs.lemmas.Str.Parse.{IsNumeralModel, numerals_by_value, tells_by_index, digits_value-take-le}
use Rattle.std.proofs.lemmas.Fmt.{decimal_is_IsNumeral, decimal-digits_value, decimal_digit, first_decimal, digits_value-decimal}

-- each byte is a decimal digit
abbrev pub EachDigit : List ℕ → Type 0
EachDigit digits = (i : ℕ) → i < length digits → IsInRange 48 57 (get_or digits i 0)

own : IsNumeralModel EachDigit (digits_value 10)
own = numerals_by_value EachDigit tells_by_index

-- a number of two or more digits has no leading zero
pub first_of_many : (n : ℕ) → n < 2 ^ 64 → 1 < length (decimal n) → get_or (decimal n) 0 0 ≢ 48
first_of_many zero small long zeroth =
    absurd (let short : length (decimal 0) ≡ 1 = ap length (decimal_digit 0 (omega arith)) in omega arith)
first_of_many (suc n) small long zeroth =
    absurd (let first : 48 < get_or (decimal (suc n)) 0 0 = first_decimal (suc n) (omega arith) small in omega arith)

-- a number has a digit
pub decimal_has_digit : (n : ℕ) → n < 2 ^ 64 → 0 < length (decimal n)
decimal_has_digit n small = (decimal_is_IsNumeral n small).0.0

-- each byte of a number is a digit
pub decimal_each : (n : ℕ) → n < 2 ^ 64 → EachDigit (decimal n)
decimal_each n small = own.from (decimal n) (decimal_is_IsNumeral n small).0.1

digit_value_in : (byte : ℕ) → IsInRange 48 57 byte → digit_value byte ≡ byte - 48
digit_value_in byte range = grind (arith, nat_tests, range.0, range.1)

-- the value of one digit more
pub value_more : (digits : List ℕ) (i : ℕ) → i < length digits → IsInRange 48 57 (get_or digits i 0)
    → digits_value 10 (take (i + 1) digits) ≡ digits_value 10 (take i digits) * 10 + (get_or digits i 0 - 48)
value_more digits i within digit =
    digits_value_more 10 digits i within ∙ ap (λ d. digits_value 10 (take i digits) * 10 + d) (digit_value_in (get_or digits i 0) digit)

-- if the next digit is none, or the number so far would be too large with it, the digits write no number
pub no_number : (digits : List ℕ) (i n : ℕ) → i < length digits
    → (IsInRange 48 57 (get_or digits i 0) → 2 ^ 64 ≤ digits_value 10 (take i digits) * 10 + (get_or digits i 0 - 48))
    → n < 2 ^ 64 → digits ≡ decimal n → ⊥
no_number digits i n within too_large small is =
    let digit : IsInRange 48 57 (get_or digits i 0) =
    decimal_each_of digits n small is i within in
    let value : digits_value 10 digits ≡ n = ap (digits_value 10) is ∙ digits_value-decimal own n small in
    let more = value_more digits i within digit in
    let front = digits_value-take-le 10 digits (i + 1) (omega arith) in
    omega (arith, too_large digit)
  where
    decimal_each_of : (digits : List ℕ) (n : ℕ) → n < 2 ^ 64 → digits ≡ decimal n → EachDigit digits
    decimal_each_of digits n small is = subst EachDigit (sym is) (decimal_each n small)

one_digit : (digits : List ℕ) → 0 < length digits → (1 < length digits → get_or digits 0 0 ≢ 48) → get_or digits 0 0 ≡ 48
    → length digits ≡ 1
one_digit [] some plain zeroth = omega arith
one_digit (x ∷ []) some plain zeroth = refl
one_digit (x ∷ y ∷ ys) some plain zeroth = absurd (plain (omega arith) zeroth)

-- digits with no leading zero are the decimal of their value
pub digits_write : (digits : List ℕ) (n : ℕ) → 0 < length digits → (1 < length digits → get_or digits 0 0 ≢ 48) → EachDigit digits
    → n ≡ digits_value 10 digits → n < 2 ^ 64 → digits ≡ decimal n
digits_write digits n some plain each is small =
    sym (ap decimal is ∙ decimal-digits_value own digits each some (λ zeroth. one_digit digits some plain zeroth) (omega arith))

-- so a number begins
pub begins_decimal : (n : ℕ) → n < 2 ^ 64 → BeginsNumber (decimal n)
begins_decimal n small = record { some = decimal_has_digit n small; leading = first_of_many n small }
