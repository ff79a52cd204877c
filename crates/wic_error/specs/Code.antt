-- How the values that contracts see are stored.
use Rattle.std.specs.Prelude.{◌≡◌, ◌⊎◌, ℕ, List, refl}
use Rattle.std.specs.Coded.{Coded, code_by, coded×, coded⊎, coded_ℕ, coded_list}
use Rattle.std.proofs.Common.{inl, inr}
use Rattle.wic_error.specs.Error.{Error, out_of_memory, links, Item, link, oom}

module _ {K : Type 0} where
  abbrev error_parts : Error K → ℕ ⊎ (K × List K)
  error_parts (out_of_memory size) = inl size
  error_parts (links newest older) = inr (newest, older)

  abbrev error_of_parts : ℕ ⊎ (K × List K) → Error K
  error_of_parts (inl size) = out_of_memory size
  error_of_parts (inr parts) = links parts.0 parts.1

  pub error_parts_back : (e : Error K) → error_of_parts (error_parts e) ≡ e
  error_parts_back (out_of_memory size) = refl
  error_parts_back (links newest older) = refl

  -- an error is stored as its size, or as its newest link and the others
  abbrev pub error_code : Coded K → Coded (Error K)
  error_code code =
      code_by (ℕ ⊎ (K × List K)) (coded⊎ coded_ℕ (coded× code (coded_list code))) error_parts error_of_parts error_parts_back

  abbrev item_parts : Item K → K ⊎ ℕ
  item_parts (link k) = inl k
  item_parts (oom size) = inr size

  abbrev item_of_parts : K ⊎ ℕ → Item K
  item_of_parts (inl k) = link k
  item_of_parts (inr size) = oom size

  pub item_parts_back : (item : Item K) → item_of_parts (item_parts item) ≡ item
  item_parts_back (link k) = refl
  item_parts_back (oom size) = refl

  -- an item is stored as its link or its size
  abbrev pub item_code : Coded K → Coded (Item K)
  item_code code = code_by (K ⊎ ℕ) (coded⊎ code coded_ℕ) item_parts item_of_parts item_parts_back
