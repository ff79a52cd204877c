-- Texts in which a byte doesn't stand, cut where it does.
use Rattle.std.proofs.Common.{◌≡◌, ◌≢◌, ◌⊎◌, inl, inr, ℕ, zero, suc, ◌+◌, ◌%◌, ◌<◌, false, List, [], ◌∷◌, ◌++◌, length, get_or, take}
use Rattle.std.proofs.Common.{refl, sym, ap, ◌∙◌, arith}
use Rattle.std.specs.Prelude.{nat_eq}
use Rattle.std.specs.List.{list_any}
use Rattle.std.specs.Fmt.{decimal}
use Rattle.std.proofs.lemmas.Bool.Decides.{nat_tests}
use Rattle.std.proofs.lemmas.Bool.{or_parts, or_from, cases_eq}
use Rattle.std.proofs.lemmas.List.{append-nil}
use Rattle.std.proofs.lemmas.List.Folds.{list_any-append}
use Rattle.std.proofs.lemmas.Fmt.{decimal_by_steps}
use Rattle.batch_script.specs.Grammar.{IsWritable, lines_of, with_byte}
use Rattle.batch_script.specs.Front.{has_feed, EndsLine}

other_byte : (wanted byte : ℕ) → byte ≢ wanted → nat_eq wanted byte ≡ false
other_byte wanted byte other = grind (arith, nat_tests)

pub no_such : (wanted byte : ℕ) → nat_eq wanted byte ≡ false → byte ≢ wanted
no_such wanted byte none = grind (arith, nat_tests)

-- before its first place it doesn't stand
pub none_before : (wanted : ℕ) (text : List ℕ) (end : ℕ) → ((k : ℕ) → k < end → get_or text k 0 ≢ wanted)
    → list_any (nat_eq wanted) (take end text) ≡ false
none_before wanted text zero before = refl
none_before wanted [] (suc end) before = refl
none_before wanted (byte ∷ text) (suc end) before =
    or_from _ _ (other_byte wanted byte (before 0 (omega arith)))
    (none_before wanted text end (λ k below. before (suc k) (omega arith)))

-- it doesn't stand in the digits of a number
digit_is_none : (wanted digit : ℕ) → wanted < 48 → nat_eq wanted (48 + digit) ≡ false
digit_is_none wanted digit small = other_byte wanted (48 + digit) (λ same. omega arith)

pub none_in_decimal : (wanted number : ℕ) → wanted < 48 → IsWritable number → list_any (nat_eq wanted) (decimal number) ≡ false
none_in_decimal wanted number small =
    decimal_by_steps (λ _ digits. list_any (nat_eq wanted) digits ≡ false)
    (λ digit _. or_from _ false (digit_is_none wanted digit small) refl)
    (λ number digits _ none. list_any-append (nat_eq wanted) digits _
    ∙ or_from _ _ none (or_from _ false (digit_is_none wanted (number % 10) small) refl)) number

-- a byte that is no line feed stands in the first line
lines-other : (byte : ℕ) (bytes : List ℕ) → byte ≢ 10 → lines_of (byte ∷ bytes) ≡ with_byte byte (lines_of bytes)
lines-other byte bytes other = grind (arith, nat_tests)

lines-before_feed : (line later : List ℕ) → has_feed line ≡ false → lines_of (line ++ 10 ∷ later) ≡ line ∷ lines_of later
lines-before_feed [] later none = refl
lines-before_feed (byte ∷ line) later none =
    let parts = or_parts (nat_eq 10 byte) (has_feed line) none in
    lines-other byte (line ++ 10 ∷ later) (no_such 10 byte parts.0) ∙ ap (with_byte byte) (lines-before_feed line later parts.1)

lines-last : (byte : ℕ) (line : List ℕ) → has_feed (byte ∷ line) ≡ false → lines_of (byte ∷ line) ≡ (byte ∷ line) ∷ []
lines-last byte [] none = lines-other byte [] (no_such 10 byte (or_parts (nat_eq 10 byte) false none).0)
lines-last byte (next ∷ line) none =
    let parts = or_parts (nat_eq 10 byte) (has_feed (next ∷ line)) none in
    lines-other byte (next ∷ line) (no_such 10 byte parts.0) ∙ ap (with_byte byte) (lines-last next line parts.1)

lines-at_end : (line : List ℕ) → has_feed line ≡ false → 0 < length line → lines_of line ≡ line ∷ []
lines-at_end [] none some = absurd (omega arith)
lines-at_end (byte ∷ line) none some = lines-last byte line none

-- a text with no line feed, and behind it the end of the line, is the first line
pub lines-first : (input line rest later : List ℕ) → input ≡ line ++ rest → has_feed line ≡ false → EndsLine rest later
    → 0 < length input → lines_of input ≡ line ∷ lines_of later
lines-first input line rest later is none ends some =
    elim ends [
      | inl last ↦
          let whole : input ≡ line = is ∙ (ap (λ r. line ++ r) last.0 ∙ append-nil line) in
          let long : length input ≡ length line = ap length whole in
          ap lines_of whole ∙ (lines-at_end line none (omega (arith, long, some)) ∙ ap (λ l. line ∷ lines_of l) (sym last.1))
      | inr feed ↦ ap lines_of (is ∙ ap (λ r. line ++ r) feed) ∙ lines-before_feed line later none
    ]

-- the first line of an input, and what stands behind it
pub record IsFirstLine (input line rest later : List ℕ) : Type 0 where
  pub same : input ≡ line ++ rest
  pub no_feed : has_feed line ≡ false
  pub ends : EndsLine rest later

abbrev pub HasFirstLine : List ℕ → Type 0
HasFirstLine input = (line : List ℕ) × (rest : List ℕ) × (later : List ℕ) × IsFirstLine input line rest later

line_feed_first : (byte : ℕ) (bytes : List ℕ) → byte ≡ 10 → HasFirstLine (byte ∷ bytes)
line_feed_first byte bytes is =
    ([], byte ∷ bytes, bytes, record { same = refl; no_feed = refl; ends = inr (ap (λ b. b ∷ bytes) is) })

pub first_line : (byte : ℕ) (bytes : List ℕ) → HasFirstLine (byte ∷ bytes)
first_line byte [] =
    elim (cases_eq byte 10) [
      | inl is ↦ line_feed_first byte [] is
      | inr other ↦ (
        byte ∷ [],
        [],
        [],
        record {
          same = refl;
          no_feed = or_from _ false (other_byte 10 byte other) refl;
          ends = inl (refl, refl);
        },
      )
    ]
first_line byte (next ∷ more) =
    elim (cases_eq byte 10) [
      | inl is ↦ line_feed_first byte (next ∷ more) is
      | inr other ↦
          let later = first_line next more in (
            byte ∷ later.0,
            later.1,
            later.2,
            record {
              same = ap (λ l. byte ∷ l) later.3.same;
              no_feed = or_from _ _ (other_byte 10 byte other) later.3.no_feed;
              ends = later.3.ends;
            },
          )
    ]

-- what is no other byte is one of the two
pub stops_here : (byte : ℕ) → (byte ≢ 32 → byte ≢ 10 → ⊥) → (byte ≡ 32) ⊎ (byte ≡ 10)
stops_here byte never =
    elim (cases_eq byte 32) [
      | inl is ↦ inl is
      | inr other ↦ elim (cases_eq byte 10) [
        | inl is ↦ inr is
        | inr nor ↦ absurd (never other nor)
      ]
    ]
