-- The texts and the content of the errors of collecting.
use Rattle.std.specs.Prelude.{⊤, ◌≡◌, ℕ, List, codes}
use Rattle.wic_collect.specs.declared.errors.BoxedSliceFromFallibleIterError.{BoxedSliceFromFallibleIterError}
use Rattle.wic_collect.specs.declared.errors.BoxedSliceFromFallibleIterError.TheVariants as fallible
use Rattle.wic_collect.specs.declared.errors.TooFewItemsOrOom.{TooFewItemsOrOom}
use Rattle.wic_collect.specs.declared.errors.TooFewItemsOrOom.TheVariants as with_len

-- the out of memory that such an error has in it
abbrev pub Holds : BoxedSliceFromFallibleIterError ℕ → ℕ → Type 0
Holds (fallible.IterError oom) size = size ≡ oom
Holds (fallible.Oom oom) size = size ≡ oom

-- the text of an error of a slice of a stated length
abbrev pub with_len_text : TooFewItemsOrOom → List ℕ
with_len_text (with_len.TooFewItems few) = codes "The iterator did not yield enough items to fill the boxed slice"
with_len_text (with_len.Oom oom) = codes "Failed to allocate space for the boxed slice"

-- the text of an error of a slice of fallible items
abbrev pub fallible_text : {E : Type 0} → BoxedSliceFromFallibleIterError E → List ℕ
fallible_text (fallible.IterError e) = codes "The fallible iterator produced an error"
fallible_text (fallible.Oom oom) = codes "Failed to allocate space for the boxed slice"

-- this holds if there were too few items
abbrev pub OnTooFewItems : Type 0 → TooFewItemsOrOom → Type 0
OnTooFewItems P (with_len.TooFewItems few) = P
OnTooFewItems P (with_len.Oom oom) = ⊤

-- this holds of the item that was an error, if there was one
abbrev pub OnIterError : {E : Type 0} → (E → Type 0) → BoxedSliceFromFallibleIterError E → Type 0
OnIterError P (fallible.IterError e) = P e
OnIterError P (fallible.Oom oom) = ⊤
