-- What a contract sees of an error, and of the items of its chain.
use Rattle.std.specs.Prelude.{◌≡◌, ℕ, ◌==◌, Bool, true, false, List, [], ◌∷◌, ◌++◌, map, Option, Some, None, find, if◌then◌else◌}
use Rattle.wic_base.specs.OutOfMemory.{text_of}

-- an error: out of memory with the size that was asked for, or links, the newest and the older ones, newest first
pub data Error (K : Type 0) : Type 0 where
  out_of_memory : ℕ → Error K
  links : K → List K → Error K

-- an item of a chain: a link, or out of memory
pub data Item (K : Type 0) : Type 0 where
  link : K → Item K
  oom : ℕ → Item K

module _ {K : Type 0} where
  -- a list with this element in the place of the first one that passes the test
  abbrev pub replace_first : (K → Bool) → K → List K → List K
  replace_first test written [] = []
  replace_first test written (k ∷ ks) = if test k then written ∷ ks else k ∷ replace_first test written ks

  -- whether an error is out of memory
  abbrev pub is_oom : Error K → Bool
  is_oom (out_of_memory size) = true
  is_oom (links newest older) = false

  -- the links of an error, the newest first
  abbrev pub links_of : Error K → List K
  links_of (out_of_memory size) = []
  links_of (links newest older) = newest ∷ older

  -- the items of an error's chain: its links, the newest first, or the one out of memory
  abbrev pub items_of : Error K → List (Item K)
  items_of (out_of_memory size) = oom size ∷ []
  items_of (links newest older) = map link (newest ∷ older)

  -- out of memory as an item, if there is one
  abbrev pub want_of : Option ℕ → List (Item K)
  want_of None = []
  want_of (Some size) = oom size ∷ []

  -- the first of an error's links that has this number
  abbrev pub first_with : (K → ℕ) → ℕ → Error K → Option K
  first_with number wanted error = find (λ k. number k == wanted) (links_of error)

  -- an error with another link in the place of the first one that has this number
  abbrev pub with_first : (K → ℕ) → ℕ → Error K → K → Error K
  with_first number wanted (out_of_memory size) written = out_of_memory size
  with_first number wanted (links newest older) written =
      if number newest == wanted then links written older
      else links newest (replace_first (λ k. number k == wanted) written older)

  -- a list ends in this item
  abbrev pub EndsIn : List (Item K) → Item K → Type 0
  EndsIn items item = (before : List (Item K)) × (items ≡ before ++ item ∷ [])

  -- the text of an item
  abbrev pub item_text : (K → List ℕ) → Item K → List ℕ
  item_text text (link k) = text k
  item_text text (oom size) = text_of size

  -- the texts of an error's chain, item by item
  abbrev pub texts_of : (K → List ℕ) → Error K → List (List ℕ)
  texts_of text error = map (item_text text) (items_of error)
