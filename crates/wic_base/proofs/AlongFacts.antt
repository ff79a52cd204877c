-- What the items taken out of an iterator are, and what it keeps meanwhile.
use Rattle.std.proofs.Common.{◌≡◌, ap, subst, length, List, [], ◌∷◌}
use Rattle.std.specs.Prelude.{Option, None, Some}
use Rattle.std.specs.Iterator.{Yields}
use Rattle.std.specs.Iterator.Runs.{YieldsInOrder}
use Rattle.std.proofs.iter.runs.Sources.{from_front, as_is}

module _ {S A : Type 0} (steps : S → Option A → S → Type 0) where
  -- an iterator each of whose steps gives the first item that is left gives all of them in order
  pub in_order_by_firsts : (left : S → List A) → ((s t : S) → steps s None t → left s ≡ [])
      → ((s : S) (x : A) (t : S) → steps s (Some x) t → left s ≡ x ∷ left t) → YieldsInOrder steps left
  in_order_by_firsts left none some run seen =
      as_is run (left run.from) (from_front steps (λ x. x) left (λ s t end. ap length (none s t end)) some run seen)

  -- a reflexive and transitive relation that each step keeps holds between the first and the last state of a run
  pub keeps_along : (Keeps : S → S → Type 0) → ((s : S) → Keeps s s) → ((r s t : S) → Keeps r s → Keeps s t → Keeps r t)
      → ((s t : S) (x : A) → steps s (Some x) t → Keeps s t)
      → (first : S) (items : List A) (later : S) → Yields steps first items later → Keeps first later
  keeps_along Keeps same chain step first [] later none = subst (Keeps first) none (same first)
  keeps_along Keeps same chain step first (x ∷ items) later some =
      chain first some.0 later (step first some.0 x some.1) (keeps_along Keeps same chain step some.0 items later some.2)
