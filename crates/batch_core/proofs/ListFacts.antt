-- The last value of a list, and a value written over and written back.
use Rattle.std.proofs.Common.{◌≡◌, ℕ, zero, suc, ◌-◌, ◌<◌, List, [], ◌∷◌, ◌++◌, length, take, Some, refl, ap, ◌∙◌, arith, length-append}
use Rattle.std.specs.Prelude.{slice_get, slice_set}
use Rattle.std.proofs.Math.Seq.{take-append_seam}
use Rattle.batch_core.specs.Command.{without_last, last_value}

module _ {T : Type 0} where
  length-push : (ys : List T) (y : T) → length (ys ++ y ∷ []) - 1 ≡ length ys
  length-push ys y = omega (arith, length-append ys (y ∷ []))

  slice_get-push : (ys : List T) (y : T) → slice_get (ys ++ y ∷ []) (length ys) ≡ Some y
  slice_get-push [] y = refl
  slice_get-push (x ∷ ys) y = slice_get-push ys y

  -- ys and then y, without its last value, is ys
  pub without_last-push : (ys : List T) (y : T) → without_last (ys ++ y ∷ []) ≡ ys
  without_last-push ys y = ap (λ n. take n (ys ++ y ∷ [])) (length-push ys y) ∙ take-append_seam ys (y ∷ [])

  -- the last value of ys and then y is y
  pub last_value-push : (ys : List T) (y : T) → last_value (ys ++ y ∷ []) ≡ Some y
  last_value-push ys y = ap (slice_get (ys ++ y ∷ [])) (length-push ys y) ∙ slice_get-push ys y

  -- a list that isn't empty ends in a value
  pub pushed : (x : T) (xs : List T) → (ys : List T) × (y : T) × (x ∷ xs ≡ ys ++ y ∷ [])
  pushed x [] = ([], x, refl)
  pushed x (z ∷ xs) = let rest = pushed z xs in (x ∷ rest.0, rest.1, ap (λ l. x ∷ l) rest.2)

  -- a value that is written over another, and gives way to it again, leaves the list as it was
  pub set_back : (xs : List T) (i : ℕ) (value old : T) → slice_get xs i ≡ Some old → slice_set (slice_set xs i value) i old ≡ xs
  set_back [] i value old found = absurd (cc)
  set_back (x ∷ xs) zero value old found = cc
  set_back (x ∷ xs) (suc i) value old found = ap (λ l. x ∷ l) (set_back xs i value old found)

  -- below the length there is a value
  pub found_below : (xs : List T) (i : ℕ) → i < length xs → (old : T) × (slice_get xs i ≡ Some old)
  found_below [] i below = absurd (omega arith)
  found_below (x ∷ xs) zero below = (x, refl)
  found_below (x ∷ xs) (suc i) below = found_below xs i (omega arith)

  -- if xs is ys and then y, xs without its last value is ys
  pub without_last_of : (xs ys : List T) (y : T) → xs ≡ ys ++ y ∷ [] → without_last xs ≡ ys
  without_last_of xs ys y made = ap without_last made ∙ without_last-push ys y

  -- if xs is ys and then y, the last value of xs is y
  pub last_value_of : (xs ys : List T) (y : T) → xs ≡ ys ++ y ∷ [] → last_value xs ≡ Some y
  last_value_of xs ys y made = ap last_value made ∙ last_value-push ys y
