-- The number that a text begins with.
use Rattle.std.proofs.Common.{◌≡◌, ℕ, ◌+◌, ◌-◌, ◌*◌, ◌^◌, ◌<◌, ◌≤◌, List, [], ◌++◌, length, take, drop, get_or, refl, sym, ap, subst, ◌∙◌}
use Rattle.std.proofs.Common.{arith, inl, inr, length-append, below_more}
use Rattle.std.specs.Prelude.{Option, Some, None, IfNone}
use Rattle.std.specs.Fmt.{decimal}
use Rattle.std.specs.Int.{IsInRange}
use Rattle.std.specs.Str.Parse.{digits_value}
use Rattle.std.proofs.lemmas.Bool.{cases_lt}
use Rattle.std.proofs.lemmas.List.{get_or_append_left, get_or-append-add, take-append-le, take_at, drop_at}
use Rattle.std.proofs.lemmas.Fmt.{decimal_injective}
use Rattle.batch_script.proofs.NumberFacts.{no_number, decimal_each}
use Rattle.batch_script.specs.Front.{HasNoDigitFirst}

-- what stands where there is none, stands
pub where_none : {X : Type 0} (r : Option X) (P : Type 0) → P → IfNone r P
where_none None P here = here
where_none (Some x) P here = tt

-- no digit stands where nothing is left
pub none_at_end : HasNoDigitFirst []
none_at_end some range = omega (arith, some)

-- each byte before this place is a digit
abbrev pub DigitsTo : List ℕ → ℕ → Type 0
DigitsTo text end = (k : ℕ) → k < end → IsInRange 48 57 (get_or text k 0)

module _ (text rest : List ℕ) (m : ℕ) (small : m < 2 ^ 64) (none : HasNoDigitFirst rest) (is : text ≡ decimal m ++ rest) where
  all_long : length text ≡ length (decimal m) + length rest
  all_long = ap length is ∙ length-append (decimal m) rest

  behind : get_or text (length (decimal m)) 0 ≡ get_or rest 0 0
  behind =
      let e : length (decimal m) + 0 ≡ length (decimal m) = omega arith in
      ap (λ t. get_or t (length (decimal m)) 0) is
      ∙ subst (λ i. get_or (decimal m ++ rest) i 0 ≡ get_or rest 0 0) e (get_or-append-add (decimal m) rest 0 0)

  within : (k : ℕ) → k < length (decimal m) → get_or text k 0 ≡ get_or (decimal m) k 0
  within k below = ap (λ t. get_or t k 0) is ∙ get_or_append_left (decimal m) rest 0 k below

  -- digits that stand at the front are the number's
  pub digits_end : (end : ℕ) → end ≤ length text → DigitsTo text end → end ≤ length (decimal m)
  digits_end end inside each =
      elim (cases_lt (length (decimal m)) end) [
        | inl less ↦ absurd (none (omega (arith, all_long)) (subst (IsInRange 48 57) behind (each (length (decimal m)) less)))
        | inr most ↦ most
      ]

  -- if no digit comes next, the number's digits have ended
  pub digits_reach : (end : ℕ) → (end < length text → ¬ IsInRange 48 57 (get_or text end 0)) → length (decimal m) ≤ end
  digits_reach end stops =
      elim (cases_lt end (length (decimal m))) [
        | inl less ↦
            absurd (stops (omega (arith, all_long)) (subst (IsInRange 48 57) (sym (within end less)) (decimal_each m small end less)))
        | inr most ↦ most
      ]

  -- the digits at the front are those of the number
  pub digits_are : (end : ℕ) → end ≤ length text → DigitsTo text end → (end < length text → ¬ IsInRange 48 57 (get_or text end 0))
      → take end text ≡ decimal m
  digits_are end inside each stops =
      let low = digits_end end inside each in
      let high = digits_reach end stops in
      let same : length (decimal m) ≡ end = omega (arith, low, high) in
      ap (take end) is ∙ take_at (decimal m) rest end same

  -- no number begins so, if the digits up to here are too large
  pub never_too_large : (i : ℕ) → i < length text → DigitsTo text i → IsInRange 48 57 (get_or text i 0)
      → 2 ^ 64 ≤ digits_value 10 (take i text) * 10 + (get_or text i 0 - 48) → ⊥
  never_too_large i inside each digit large =
      let reach = digits_end (i + 1) (omega arith) (below_more _ _ each digit) in
      let front : take i text ≡ take i (decimal m) = ap (take i) is ∙ take-append-le i (decimal m) rest (omega (arith, reach)) in
      let here = within i (omega (arith, reach)) in
      let large_too = subst (λ d. 2 ^ 64 ≤ digits_value 10 d * 10 + (get_or text i 0 - 48)) front large in
      let larger = subst (λ b. 2 ^ 64 ≤ digits_value 10 (take i (decimal m)) * 10 + (b - 48)) here large_too in
      no_number (decimal m) i m (omega (arith, reach)) (λ range. larger) small refl

-- a text begins with one number alone
pub one_front : (n m : ℕ) (rest tail : List ℕ) → n < 2 ^ 64 → m < 2 ^ 64 → HasNoDigitFirst rest → HasNoDigitFirst tail
    → decimal n ++ rest ≡ decimal m ++ tail → (n ≡ m) × (rest ≡ tail)
one_front n m rest tail small few none nor same =
    let long : length (decimal n ++ rest) ≡ length (decimal n) + length rest = length-append (decimal n) rest in
    let stops = λ (within : length (decimal n) < length (decimal n ++ rest))
    (range : IsInRange 48 57 (get_or (decimal n ++ rest) (length (decimal n)) 0)).
    none (omega (arith, long)) (subst (IsInRange 48 57) (behind (decimal n ++ rest) rest n small none refl) range) in
    let each = λ (k : ℕ) (below : k < length (decimal n)).
    subst (IsInRange 48 57) (sym (within (decimal n ++ rest) rest n small none refl k below)) (decimal_each n small k below) in
    let front = digits_are (decimal n ++ rest) tail m few nor same (length (decimal n)) (omega (arith, long)) each stops in
    let texts : decimal n ≡ decimal m = sym (take_at (decimal n) rest (length (decimal n)) refl) ∙ front in
    let size : length (decimal m) ≡ length (decimal n) = sym (ap length texts) in (
      decimal_injective n m small few texts,
      sym (drop_at (decimal n) rest (length (decimal n)) refl) ∙ (ap (drop (length (decimal n))) same
          ∙ drop_at (decimal m) tail (length (decimal n)) size),
    )
