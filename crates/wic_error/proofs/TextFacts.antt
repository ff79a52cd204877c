-- The texts of an error, from the links that are kept.
use Rattle.std.proofs.Common.{◌≡◌, ℕ, ◌+◌, ◌/◌, ◌^◌, ◌<◌, ◌≤◌, List, [], ◌∷◌, ◌++◌, length, map, reverse, refl, ap, ◌∙◌, arith}
use Rattle.std.proofs.Common.{length-append}
use Rattle.std.specs.Prelude.{codes}
use Rattle.std.specs.Fmt.{decimal}
use Rattle.std.proofs.lemmas.Fmt.{decimal_digit, decimal_step, decimal_nonempty}
use Rattle.wic_base.specs.OutOfMemory.{text_of}
use Rattle.wic_error.specs.Chain.{report, cause_lines}
use Rattle.wic_error.specs.Error.{item_text, link, texts_of}
use Rattle.wic_error.specs.Kept.{kept_of, seen, IsLinked}
use Rattle.wic_error.specs.declared.repr.Repr.{Repr}
use Rattle.wic_error.specs.declared.repr.Repr.TheVariants.{Oom, Links}
use Rattle.wic_error.proofs.LinkFacts.{reverse_parts}

module _ {K : Type 0} (text : K → List ℕ) where
  item_texts : (ks : List K) → map (item_text text) (map link ks) ≡ map text ks
  item_texts [] = refl
  item_texts (k ∷ ks) = ap (text k ∷◌) (item_texts ks)

  -- the newest link lies last
  pub texts_of-parts : (repr : Repr K) (causes : List K) (newest : K) → kept_of repr ≡ causes ++ newest ∷ []
      → texts_of text (seen repr) ≡ text newest ∷ map text (reverse causes)
  texts_of-parts (Oom size) [] newest parts = cc
  texts_of-parts (Oom size) (cause ∷ causes) newest parts = cc
  texts_of-parts (Links kept) causes newest parts =
      rw (parts, reverse_parts causes [] newest) (ap (text newest ∷◌) (item_texts (reverse causes)))

  -- if there is no link, there is the one text of out of memory
  pub texts_of-no_link : (repr : Repr K) → IsLinked repr → length (kept_of repr) ≡ 0
      → (newest : List ℕ) × (texts_of text (seen repr) ≡ newest ∷ [])
  texts_of-no_link (Oom size) linked none = (text_of size, refl)
  texts_of-no_link (Links kept) linked none = absurd (omega arith)

-- if there are causes, the report has the heading and their lines
pub report-causes : (newest : List ℕ) (causes : List (List ℕ)) → 0 < length causes
    → report (newest ∷ causes) ≡ newest ++ codes "\n\nCaused by:\n" ++ cause_lines causes
report-causes newest [] some = absurd (omega arith)
report-causes newest (cause ∷ causes) some = refl

-- a number below 10 has one digit
pub one_digit : (n : ℕ) → n < 10 → length (decimal n) ≡ 1
one_digit n small = ap length (decimal_digit n small)

-- a number from 10 to below 2 ^ 64 has one digit more than its tenth part, rounded down
pub one_digit_more : (n : ℕ) → 10 ≤ n → n < 2 ^ 64 → length (decimal n) ≡ length (decimal (n / 10)) + 1
one_digit_more n large small = ap length (decimal_step n large small) ∙ length-append (decimal (n / 10)) _

-- a number from 10 to below 100 has two digits
pub two_digits : (n : ℕ) → 10 ≤ n → n < 100 → length (decimal n) ≡ 2
two_digits n large small = omega (arith, one_digit_more n large (omega arith), one_digit (n / 10) (omega arith))

-- a number from 100 to below 1000 has three digits
pub three_digits : (n : ℕ) → 100 ≤ n → n < 1000 → length (decimal n) ≡ 3
three_digits n large small =
    omega (arith, one_digit_more n (omega arith) (omega arith), two_digits (n / 10) (omega arith) (omega arith))

-- a number from 1000 to below 10000 has four digits
pub four_digits : (n : ℕ) → 1000 ≤ n → n < 10000 → length (decimal n) ≡ 4
four_digits n large small =
    omega (arith, one_digit_more n (omega arith) (omega arith), three_digits (n / 10) (omega arith) (omega arith))

-- a number from 10000 to below 2 ^ 64 has five digits or more
pub many_digits : (n : ℕ) → 10000 ≤ n → n < 2 ^ 64 → 5 ≤ length (decimal n)
many_digits n large small =
    let one = one_digit_more n (omega arith) small in
    let two = one_digit_more (n / 10) (omega arith) (omega arith) in
    let three = one_digit_more (n / 10 / 10) (omega arith) (omega arith) in
    let four = one_digit_more (n / 10 / 10 / 10) (omega arith) (omega arith) in
    let five = decimal_nonempty (n / 10 / 10 / 10 / 10) (omega arith) in
    omega arith
