-- A word and numbers at the front of an input.
use Rattle.std.proofs.Common.{◌≡◌, ◌≢◌, ◌⊎◌, inl, inr, ℕ, ◌^◌, ◌<◌, ◌≤◌, false, List, [], ◌∷◌, ◌++◌, length, get_or, map}
use Rattle.std.proofs.Common.{refl, sym, ap, subst, ◌∙◌, arith, append_assoc, drop}
use Rattle.std.specs.Prelude.{nat_eq}
use Rattle.std.specs.List.{AllByRecursion, join_with_byte}
use Rattle.std.specs.Fmt.{decimal}
use Rattle.std.proofs.lemmas.Bool.{or_parts, or_from}
use Rattle.std.proofs.lemmas.List.Folds.{list_any-append}
use Rattle.batch_script.specs.Grammar.{IsWritable, line_of, lines_of}
use Rattle.batch_script.specs.Reading.{HasNoParts, has_space}
use Rattle.batch_script.specs.Front.{AreNumbersBefore, EndsLine, HasFault, HasNoDigitFirst, IsCut, has_feed}
use Rattle.batch_script.proofs.CutFacts.{IsFirstLine, first_line, lines-first, no_such, none_in_decimal}
use Rattle.batch_script.proofs.FrontFacts.{one_front}

-- ---- ends

-- no digit stands where a line ends
pub line_end_no_digit : (rest later : List ℕ) → EndsLine rest later → HasNoDigitFirst rest
line_end_no_digit [] later ends some range = omega (arith, some)
line_end_no_digit (byte ∷ rest) later (inl last) some range = absurd (let long = ap length last.0 in omega arith)
line_end_no_digit (byte ∷ rest) later (inr feed) some range =
    let first : byte ≡ 10 = cc in omega (arith, range.0)

-- nor a space
pub line_end_no_space : (rest later more : List ℕ) → EndsLine rest later → rest ≡ 32 ∷ more → ⊥
line_end_no_space rest later more (inl last) is = let long = ap length (sym last.0 ∙ is) in omega (arith, long)
line_end_no_space rest later more (inr feed) is =
    let first : 10 ≡ 32 = ap (λ l. get_or l 0 0) (sym feed ∙ is) in omega (arith, first)

pub space_no_digit : (more : List ℕ) → HasNoDigitFirst (32 ∷ more)
space_no_digit more some range = omega (arith, range.0)

-- ---- numbers

-- if no number stands at the front, there are none
pub no_first : (text : List ℕ) → ((n : ℕ) (rest : List ℕ) → n < 2 ^ 64 → HasNoDigitFirst rest → text ≢ decimal n ++ rest)
    → (numbers rest later : List ℕ) → length numbers ≤ 2 → ¬ AreNumbersBefore text numbers rest later
no_first text never [] rest later few are = absurd (omega (arith, are.some))
no_first text never (n ∷ []) rest later few are = never n rest are.writable.0 (line_end_no_digit rest later are.ends) are.same
no_first text never (n ∷ m ∷ []) rest later few are =
    never n (32 ∷ (decimal m ++ rest)) are.writable.0 (space_no_digit (decimal m ++ rest))
    (are.same ∙ append_assoc (decimal n) (32 ∷ decimal m) rest)
no_first text never (n ∷ m ∷ k ∷ numbers) rest later few are = absurd (omega (arith, few))

-- behind the first number the line ends, or a space and a second number stand there
abbrev GoesOn : List ℕ → List ℕ → List ℕ → Type 0
GoesOn front rest later = EndsLine front later ⊎ ((m : ℕ) × (m < 2 ^ 64) × (front ≡ 32 ∷ (decimal m ++ rest)))

goes_on : (text front : List ℕ) (n : ℕ) → n < 2 ^ 64 → HasNoDigitFirst front → text ≡ decimal n ++ front
    → (numbers rest later : List ℕ) → length numbers ≤ 2 → AreNumbersBefore text numbers rest later → GoesOn front rest later
goes_on text front n small none is [] rest later few are = absurd (omega (arith, are.some))
goes_on text front n small none is (k ∷ []) rest later few are =
    let one = one_front n k front rest small are.writable.0 none (line_end_no_digit rest later are.ends) (sym is ∙ are.same) in
    inl (subst (λ r. EndsLine r later) (sym one.1) are.ends)
goes_on text front n small none is (k ∷ m ∷ []) rest later few are =
    let one = one_front n k front (32 ∷ (decimal m ++ rest)) small are.writable.0 none (space_no_digit (decimal m ++ rest))
    (sym is ∙ (are.same ∙ append_assoc (decimal k) (32 ∷ decimal m) rest)) in
    inr (m, are.writable.1.0, one.1)
goes_on text front n small none is (k ∷ m ∷ j ∷ numbers) rest later few are = absurd (omega (arith, few))

module _ (text front : List ℕ) (n : ℕ) (small : n < 2 ^ 64) (none : HasNoDigitFirst front) (is : text ≡ decimal n ++ front) where
  -- neither end nor space behind the first number
  pub no_end : ((more : List ℕ) → front ≢ 32 ∷ more) → ((later : List ℕ) → ¬ EndsLine front later)
      → (numbers rest later : List ℕ) → length numbers ≤ 2 → ¬ AreNumbersBefore text numbers rest later
  no_end no_space never numbers rest later few are =
      elim (goes_on text front n small none is numbers rest later few are) [
        | inl ends ↦ never later ends
        | inr second ↦ no_space (decimal second.0 ++ rest) second.2
      ]

  -- no number behind the space
  pub no_second : (more : List ℕ) → front ≡ 32 ∷ more
      → ((m : ℕ) (rest : List ℕ) → m < 2 ^ 64 → HasNoDigitFirst rest → more ≢ decimal m ++ rest)
      → (numbers rest later : List ℕ) → length numbers ≤ 2 → ¬ AreNumbersBefore text numbers rest later
  no_second more space never numbers rest later few are =
      elim (goes_on text front n small none is numbers rest later few are) [
        | inl ends ↦ line_end_no_space front later more ends space
        | inr second ↦
            let tails : more ≡ decimal second.0 ++ rest = ap (λ l. drop 1 l) (sym space ∙ second.2) in
            never second.0 rest second.1 (line_end_no_digit rest later are.ends) tails
      ]

  -- no end behind the second number
  pub no_last : (more end : List ℕ) (m : ℕ) → front ≡ 32 ∷ more → m < 2 ^ 64 → HasNoDigitFirst end → more ≡ decimal m ++ end
      → ((later : List ℕ) → ¬ EndsLine end later)
      → (numbers rest later : List ℕ) → length numbers ≤ 2 → ¬ AreNumbersBefore text numbers rest later
  no_last more end m space low nor same never numbers rest later few are =
      elim (goes_on text front n small none is numbers rest later few are) [
        | inl ends ↦ line_end_no_space front later more ends space
        | inr second ↦
            let tails : more ≡ decimal second.0 ++ rest = ap (λ l. drop 1 l) (sym space ∙ second.2) in
            let one = one_front m second.0 end rest low second.1 nor (line_end_no_digit rest later are.ends) (sym same ∙ tails) in
            never later (subst (λ r. EndsLine r later) (sym one.1) are.ends)
      ]

-- ---- lines

-- a line of a word and numbers, and what stands behind it
pub line_with : (word numbers rest : List ℕ) → 0 < length numbers
    → line_of word numbers ++ rest ≡ word ++ 32 ∷ (join_with_byte 32 (map decimal numbers) ++ rest)
line_with word [] rest some = absurd (omega (arith, some))
line_with word (n ∷ numbers) rest some = append_assoc word (32 ∷ join_with_byte 32 (map decimal (n ∷ numbers))) rest

-- no line feed stands in it
numbers_no_feed : (numbers : List ℕ) → AllByRecursion IsWritable numbers → has_feed (join_with_byte 32 (map decimal numbers)) ≡ false
numbers_no_feed [] valid = refl
numbers_no_feed (n ∷ []) valid = none_in_decimal 10 n (omega arith) valid.0
numbers_no_feed (n ∷ m ∷ numbers) valid =
    list_any-append (nat_eq 10) (decimal n) (32 ∷ join_with_byte 32 (map decimal (m ∷ numbers)))
    ∙ or_from _ _ (none_in_decimal 10 n (omega arith) valid.0) (numbers_no_feed (m ∷ numbers) valid.1)

pub line_no_feed : (word numbers : List ℕ) → has_feed word ≡ false → AllByRecursion IsWritable numbers
    → has_feed (line_of word numbers) ≡ false
line_no_feed word [] none valid = none
line_no_feed word (n ∷ numbers) none valid =
    list_any-append (nat_eq 10) word (32 ∷ join_with_byte 32 (map decimal (n ∷ numbers)))
    ∙ or_from _ _ none (numbers_no_feed (n ∷ numbers) valid)

-- what the read parts make of the input
pub lines_read : (input word text numbers rest later : List ℕ) → IsCut input word (32 ∷ text) → AreNumbersBefore text numbers rest later
    → 0 < length input → lines_of input ≡ line_of word numbers ∷ lines_of later
lines_read input word text numbers rest later cut are some =
    let same : input ≡ line_of word numbers ++ rest =
    cut.same ∙ (ap (λ t. word ++ 32 ∷ t) are.same ∙ sym (line_with word numbers rest are.some)) in
    lines-first input (line_of word numbers) rest later same (line_no_feed word numbers cut.no_feed are.writable) are.ends some

-- a stop is behind each cut
pub cut_ends : (input word rest : List ℕ) → IsCut input word rest → ((more : List ℕ) → rest ≢ 32 ∷ more)
    → ((later : List ℕ) → ¬ EndsLine rest later) → ⊥
cut_ends input word [] cut no_space no_end = no_end [] (inl (refl, refl))
cut_ends input word (byte ∷ rest) cut no_space no_end =
    elim (cut.stops (omega arith)) [
      | inl space ↦ no_space rest (ap (λ b. b ∷ rest) space)
      | inr feed ↦ no_end rest (inr (ap (λ b. b ∷ rest) feed))
    ]

-- ---- faults

abbrev Stops : List ℕ → Type 0
Stops rest = 0 < length rest → (get_or rest 0 0 ≡ 32) ⊎ (get_or rest 0 0 ≡ 10)

abbrev IsPlain : List ℕ → Type 0
IsPlain word = (has_space word ≡ false) × (has_feed word ≡ false)

no_stop : (byte : ℕ) (word : List ℕ) → IsPlain (byte ∷ word) → (byte ≡ 32) ⊎ (byte ≡ 10) → ⊥
no_stop byte word plain (inl space) = no_such 32 byte (or_parts (nat_eq 32 byte) (has_space word) plain.0).0 space
no_stop byte word plain (inr feed) = no_such 10 byte (or_parts (nat_eq 10 byte) (has_feed word) plain.1).0 feed

later_plain : (byte : ℕ) (word : List ℕ) → IsPlain (byte ∷ word) → IsPlain word
later_plain byte word plain =
    ((or_parts (nat_eq 32 byte) (has_space word) plain.0).1, (or_parts (nat_eq 10 byte) (has_feed word) plain.1).1)

one_cut : (word other rest more : List ℕ) → IsPlain word → IsPlain other → Stops rest → Stops more → word ++ rest ≡ other ++ more
    → rest ≡ more
one_cut [] [] rest more plain even stops halts same = same
one_cut [] (byte ∷ other) rest more plain even stops halts same =
    absurd (no_stop byte other even (subst Stops same stops (omega arith)))
one_cut (byte ∷ word) [] rest more plain even stops halts same =
    absurd (no_stop byte word plain (subst Stops (sym same) halts (omega arith)))
one_cut (byte ∷ word) (letter ∷ other) rest more plain even stops halts same =
    one_cut word other rest more (later_plain byte word plain) (later_plain letter other even) stops halts (ap (λ l. drop 1 l) same)

space_stops : (more : List ℕ) → Stops (32 ∷ more)
space_stops more some = inl refl

end_stops : (rest later : List ℕ) → EndsLine rest later → Stops rest
end_stops rest later (inl last) some = absurd (let long = ap length last.0 in omega (arith, some, long))
end_stops rest later (inr feed) some = inr (ap (λ l. get_or l 0 0) feed)

-- if no numbers stand behind the first space, the first line has no parts
no_parts : (input word text line rest later : List ℕ) → IsCut input word (32 ∷ text) → IsFirstLine input line rest later
    → ((numbers rest later : List ℕ) → length numbers ≤ 2 → ¬ AreNumbersBefore text numbers rest later) → HasNoParts line
no_parts input word text line rest later cut first never other [] few has =
    let plain : IsPlain other = (has.is_word, subst (λ l. has_feed l ≡ false) has.same first.no_feed) in
    let same : other ++ rest ≡ word ++ 32 ∷ text = ap (λ l. l ++ rest) (sym has.same) ∙ (sym first.same ∙ cut.same) in
    line_end_no_space rest later text first.ends
    (one_cut other word rest (32 ∷ text) plain (cut.no_space, cut.no_feed) (end_stops rest later first.ends) (space_stops text) same)
no_parts input word text line rest later cut first never other (n ∷ numbers) few has =
    let joined = join_with_byte 32 (map decimal (n ∷ numbers)) in
    let whole : has_feed (other ++ 32 ∷ joined) ≡ false = subst (λ l. has_feed l ≡ false) has.same first.no_feed in
    let front = or_parts (has_feed other) (has_feed (32 ∷ joined)) (sym (list_any-append (nat_eq 10) other (32 ∷ joined)) ∙ whole) in
    let same : other ++ 32 ∷ (joined ++ rest) ≡ word ++ 32 ∷ text =
    sym (append_assoc other (32 ∷ joined) rest) ∙ (ap (λ l. l ++ rest) (sym has.same) ∙ (sym first.same ∙ cut.same)) in
    let tails = one_cut other word (32 ∷ (joined ++ rest)) (32 ∷ text) (has.is_word, front.0) (cut.no_space, cut.no_feed)
    (space_stops (joined ++ rest)) (space_stops text) same in
    never (n ∷ numbers) rest later few (record {
      some = omega arith;
      writable = has.writable;
      same = ap (λ l. drop 1 l) (sym tails);
      ends = first.ends;
    })

pub fault : (input word text : List ℕ) → IsCut input word (32 ∷ text) → 0 < length input
    → ((numbers rest later : List ℕ) → length numbers ≤ 2 → ¬ AreNumbersBefore text numbers rest later) → HasFault input
fault [] word text cut some never = absurd (omega (arith, some))
fault (byte ∷ bytes) word text cut some never =
    let first = first_line byte bytes in
    let facts = first.3 in (
      first.0,
      lines_of first.2,
      lines-first (byte ∷ bytes) first.0 first.1 first.2 facts.same facts.no_feed facts.ends some,
      no_parts (byte ∷ bytes) word text first.0 first.1 first.2 cut facts never,
    )
