-- What any list of asks leaves.
use Rattle.std.proofs.Common.{⊎_elim, ◌≡◌, ℕ, suc, ◌+◌, ◌-◌, ◌*◌, ◌^◌, ◌/◌, ◌%◌, ◌<◌, ◌≤◌, true, false, List, [], ◌∷◌, refl, sym, ap}
use Rattle.std.proofs.Common.{subst, ◌∙◌, arith, max, zero-add, add-one}
use Rattle.std.specs.Prelude.{nat_lt}
use Rattle.std.proofs.lemmas.Bool.{cases_eq, cases_lt}
use Rattle.std.proofs.lemmas.Bool.Decides.{nat_tests}
use Rattle.std.proofs.Math.Nat.{pow-suc, mul-le-mul_right, mul_assoc, mul_comm, mod-add-div, suc-mul}
use Rattle.std.proofs.lemmas.Nat.{mod_below, div_below}
use Rattle.wic_bitset.specs.Growth.{count_after, count_for, count_after_all, growths, highest, sum_before}

is_below : (w c : ℕ) → w < c → nat_lt w c ≡ true
is_below w c h = grind (arith, nat_tests)

not_below : (w c : ℕ) → c ≤ w → nat_lt w c ≡ false
not_below w c h = grind (arith, nat_tests)

-- with no growth the count stays
pub count_after_all-no_growth : (c : ℕ) (asks : List ℕ) → growths c asks ≡ 0 → count_after_all c asks ≡ c
count_after_all-no_growth c [] none = refl
count_after_all-no_growth c (w ∷ asks) none = ⊎_elim
    (λ below. let t = is_below w c below in let g : growths c asks ≡ 0 = sym (zero-add (growths c asks)) ∙ (rw t at none) in
    rw t (count_after_all-no_growth c asks g))
    (λ above. let t = not_below w c above in let g = (rw t at none) in absurd (omega arith))
    (cases_lt w c)

-- after a growth the count is at most twice the highest word asked by one, and 4
pub count_after_all-le : (c : ℕ) (asks : List ℕ) → 1 ≤ growths c asks → count_after_all c asks ≤ 2 * highest c asks + 4
count_after_all-le c [] some = absurd (omega arith)
count_after_all-le c (w ∷ asks) some = ⊎_elim
    (λ below. let t = is_below w c below in let g = (rw t at some) in
    rw t (let rest = count_after_all-le c asks (omega arith) in omega arith))
    (λ above.
    let t = not_below w c above in
    rw t (⊎_elim
    (λ none. let kept = count_after_all-no_growth (max (max (w + 1) (2 * c)) (c + 4)) asks none in omega arith)
    (λ more. let rest = count_after_all-le (max (max (w + 1) (2 * c)) (c + 4)) asks (omega arith) in omega arith)
    (cases_eq (growths (max (max (w + 1) (2 * c)) (c + 4)) asks) 0)))
    (cases_lt w c)

-- each growth doubles the count at least
pub doubled : (c : ℕ) (asks : List ℕ) → c * 2 ^ growths c asks ≤ count_after_all c asks
doubled c [] = omega arith
doubled c (w ∷ asks) = ⊎_elim
    (λ below. let t = is_below w c below in rw (t, zero-add) (doubled c asks))
    (λ above.
    let t = not_below w c above in
    rw t (
    let next = max (max (w + 1) (2 * c)) (c + 4) in
    let g = growths next asks in
    let rest : next * 2 ^ g ≤ count_after_all next asks = doubled next asks in
    let twice : 2 ^ (1 + g) ≡ 2 * 2 ^ g = ap (λ n. 2 ^ n) (omega arith) ∙ pow-suc 2 g ∙ mul_comm (2 ^ g) 2 in
    let turned : c * 2 ^ (1 + g) ≡ c * 2 * 2 ^ g = ap (λ n. c * n) twice ∙ sym (mul_assoc c 2 (2 ^ g)) in
    let more : c * 2 * 2 ^ g ≤ next * 2 ^ g = mul-le-mul_right (2 ^ g) (omega arith) in
    omega arith))
    (cases_lt w c)

-- the first growth gives 4 words at least
pub doubled_from_none : (asks : List ℕ) → 1 ≤ growths 0 asks → 2 ^ (growths 0 asks + 1) ≤ count_after_all 0 asks
doubled_from_none [] some = absurd (omega arith)
doubled_from_none (w ∷ asks) some =
    let t = not_below w 0 (omega arith) in
    rw t (
    let next = max (max (w + 1) (2 * 0)) (0 + 4) in
    let g = growths next asks in
    let rest : next * 2 ^ g ≤ count_after_all next asks = doubled next asks in
    let power : 2 ^ (1 + g + 1) ≡ 4 * 2 ^ g =
    ap (λ n. 2 ^ n) (omega arith) ∙ pow-suc 2 (suc g) ∙ ap (λ n. n * 2) (pow-suc 2 g) ∙ omega arith in
    let more : 4 * 2 ^ g ≤ next * 2 ^ g = mul-le-mul_right (2 ^ g) (omega arith) in
    omega arith)

-- the counts before each growth sum to at most what the growths added
pub sum_before-le : (c : ℕ) (asks : List ℕ) → sum_before c asks + c ≤ count_after_all c asks
sum_before-le c [] = omega arith
sum_before-le c (w ∷ asks) = ⊎_elim
    (λ below. let t = is_below w c below in rw (t, zero-add) (sum_before-le c asks))
    (λ above. let t = not_below w c above in rw t (let rest = sum_before-le (max (max (w + 1) (2 * c)) (c + 4)) asks in omega arith))
    (cases_lt w c)

-- the count is above the asked word
count_after-above : (c w : ℕ) → w + 1 ≤ count_after c w
count_after-above c w = ⊎_elim
    (λ below. let t = is_below w c below in rw t (omega arith))
    (λ above. let t = not_below w c above in rw t (omega arith))
    (cases_lt w c)

-- asking never lowers the count
pub count_after-le : (c w : ℕ) → c ≤ count_after c w
count_after-le c w = ⊎_elim
    (λ below. let t = is_below w c below in rw t (omega arith))
    (λ above. let t = not_below w c above in rw t (omega arith))
    (cases_lt w c)

-- a word that is there leaves the count
pub count_after-below : (c w : ℕ) → w < c → count_after c w ≡ c
count_after-below c w below = let t = is_below w c below in rw t refl

-- v is the width as the code reads it
module _ (w v c : ℕ) (is : v ≡ w) (some : 0 < w) where
  -- after its word was asked there is room for i
  pub holds_asked : (i : ℕ) → i < count_after c (i / v) * w
  holds_asked i = subst (λ v. i < count_after c (i / v) * w) (sym is)
      (let place : i / w * w + i % w ≡ i = let whole = mod-add-div i w in let turned = mul_comm w (i / w) in omega arith in
      let digit : i % w < w = mod_below i w some in
      let next : (i / w + 1) * w ≡ i / w * w + w = rw add-one (suc-mul (i / w) w) in
      let up : i / w + 1 ≤ count_after c (i / w) = count_after-above c (i / w) in
      let more : (i / w + 1) * w ≤ count_after c (i / w) * w = mul-le-mul_right w up in
      omega arith)

  -- a number below the capacity has its word
  pub word_below : (i : ℕ) → i < c * w → i / v < c
  word_below i below = subst (λ v. i / v < c) (sym is) (div_below i w c some below)

  -- a number whose word isn't there is not below the capacity
  pub word_beyond : (i : ℕ) → c ≤ i / v → c * w ≤ i
  word_beyond i past =
      let up : c * w ≤ i / w * w = mul-le-mul_right w (subst (λ v. c ≤ i / v) is past) in
      let whole = mod-add-div i w in
      let turned = mul_comm w (i / w) in
      omega arith

  -- the numbers below n are asked for by the word of the last of them
  pub asked_below : (n : ℕ) → 0 < n → count_after c ((n - 1) / v) ≡ count_for w c n
  asked_below n asks = let t = is_below 0 n asks in rw t (ap (λ v. count_after c ((n - 1) / v)) is)
