-- Items that were read, as a run of their iterator.
use Rattle.std.proofs.Common.{ℕ, List, length, Option, true, false, true≢false, Result, Ok, Err, IfOk, MatchResult, refl, sym}
use Rattle.std.specs.Iterator.{Yields, Drains}
use Rattle.std.specs.Iterator.Runs.{SomeRun, WholeRun}
use Rattle.std.proofs.iter.runs.Made.{run, to_end}

module _ {S A : Type 0} (steps : S → Option A → S → Type 0) where
  -- an iterator that was read to its end made a whole run of what it gave
  pub whole_from_drains : (s : S) (items : List A) (P : List A → ℕ → Type 0) → Drains steps s items → P items (length items)
      → WholeRun steps s (λ p. P p.items p.len)
  whole_from_drains s items P d h = (run steps s items true (to_end steps s items d), refl, refl, h)

  -- and one that wasn't made a run of what it gave so far
  pub some_from_yields : (s t : S) (items : List A) (P : List A → ℕ → Type 0) → Yields steps s items t → P items (length items)
      → SomeRun steps s (λ p. P p.items p.len)
  some_from_yields s t items P y h = (run steps s items false (t, y, λ e. absurd (true≢false (sym e))), refl, h)

-- what follows from an Ok, and what holds after an Err
pub by_result : {T E : Type 0} (r : Result T E) (P R : T → Type 0) (W : E → Type 0) → IfOk r P → ((x : T) → P x → R x)
    → ((e : E) → W e) → MatchResult r R W
by_result (Ok x) P R W is f g = f x is
by_result (Err e) P R W is f g = g e
