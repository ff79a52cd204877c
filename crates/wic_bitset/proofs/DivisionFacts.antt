-- The word of a number and its place there; how many words of one width some numbers need.
use Rattle.std.proofs.Common.{⊎_elim, ◌≡◌, ℕ, ◌+◌, ◌*◌, ◌/◌, ◌<◌, ◌≤◌, add-one, arith}
use Rattle.std.specs.Int.{div_ceil}
use Rattle.std.proofs.lemmas.Bool.{cases_lt}
use Rattle.std.proofs.lemmas.Grind.{div_ceil_times}
use Rattle.std.proofs.lemmas.Nat.{div_below, le-div}
use Rattle.std.proofs.Math.Nat.{div-mul-le_self, suc-mul, mul-le-mul_left, mul-le-mul_right}

-- the start of the next word
pub next_start : (k w : ℕ) → (k + 1) * w ≡ k * w + w
next_start k w = rw add-one (suc-mul k w)

-- a greater number stands in no earlier word
pub div_mono : (w a b : ℕ) → 0 < w → a ≤ b → a / w ≤ b / w
div_mono w a b some le = le-div (a / w) b w some (let h = div-mul-le_self a w in omega arith)

-- the rounded quotient reaches
pub div_ceil-reaches : (w n : ℕ) → 0 < w → n ≤ div_ceil n w * w
div_ceil-reaches w n some = (div_ceil_times n w some).0

-- and is the least that does
pub div_ceil-least : (w a n : ℕ) → 0 < w → a ≤ n * w → div_ceil a w ≤ n
div_ceil-least w a n some reaches = ⊎_elim
    (λ less. absurd (
    let next = next_start n w in
    let more : n + 1 ≤ div_ceil a w = omega arith in
    let up : (n + 1) * w ≤ div_ceil a w * w = mul-le-mul_right w more in
    let under = (div_ceil_times a w some).1 in
    omega arith))
    (λ le. le)
    (cases_lt n (div_ceil a w))

-- wider words are no more
pub div_ceil-wider : (v w n : ℕ) → 0 < w → w ≤ v → div_ceil n v ≤ div_ceil n w
div_ceil-wider v w n some wider =
    let reaches = div_ceil-reaches w n some in
    let up : div_ceil n w * w ≤ div_ceil n w * v = mul-le-mul_left (div_ceil n w) wider in
    div_ceil-least v n (div_ceil n w) (omega arith) (omega arith)

-- a number below n has its word among those that the numbers below n need
pub below_div_ceil : (w k n : ℕ) → 0 < w → k < n → k / w < div_ceil n w
below_div_ceil w k n some below = div_below k w (div_ceil n w) some (let h = div_ceil-reaches w n some in omega arith)
