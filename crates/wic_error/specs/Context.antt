-- What an error is once a context was added.
use Rattle.std.specs.Prelude.{◌≡◌, ◌⊎◌, [], ◌∷◌, Option, Some, None, IsTrue}
use Rattle.wic_error.specs.Error.{Error, links, links_of, is_oom}

module _ {K : Type 0} where
  -- the error is the context in front of what was the cause, if there was one, or there was no memory for it; a cause
  -- that is out of memory stays as it is
  abbrev pub IsInContext : Option (Error K) → K → Error K → Type 0
  IsInContext None context error = (error ≡ links context []) ⊎ IsTrue (is_oom error)
  IsInContext (Some cause) context error =
      (IsTrue (is_oom cause) → error ≡ cause) × ((error ≡ links context (links_of cause)) ⊎ IsTrue (is_oom error))

  -- the error is the context in front of this one link, or there was no memory for it
  abbrev pub IsContextOf : K → K → Error K → Type 0
  IsContextOf root context error = (error ≡ links context (root ∷ [])) ⊎ IsTrue (is_oom error)
