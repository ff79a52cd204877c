-- The entries as a map of live ids, and what a write of one entry changes in it.
use Rattle.std.proofs.Common.{◌≡◌, ◌≢◌, ℕ, zero, suc, ◌+◌, ◌<◌, T, List, [], ◌∷◌, ◌++◌, length, get_or, set}
use Rattle.std.proofs.Common.{Some, None, slice_get, inl, inr, refl, sym, ap, ◌∙◌, arith, nat_cmp}
use Rattle.std.proofs.lemmas.Bool.{cases_eq}
use Rattle.std.proofs.lemmas.List.{get_or-set_same, get_or-set_other}
use Rattle.std.proofs.lemmas.Option.{get_or_from_slice_get}
use Rattle.std.specs.FinMap.{get, insert, remove, find, is_sorted, entries, get-from_sorted, entries-from_sorted}
use Rattle.std.specs.FinMap.Entries.{below_all}
use Rattle.wic_slab.specs.declared.slab.Entry.{Entry}
use Rattle.wic_slab.specs.declared.slab.Entry.TheVariants.{Vacant, Occupied}
use Rattle.wic_slab.specs.Entry.{value_of, pairs_from, live_of}
use Rattle.wic_base.proofs.MapFacts.{eq_by_cmp_same, eq_by_cmp_other, same_map_from_get, T-and_from_both, is_lt-nat_cmp_from_below}
use Rattle.wic_base.proofs.MapFacts.{get-insert_same, get-insert_other, get-remove_same, get-remove_other}

module _ {X : Type 0} where
  below_pairs : (bound place : ℕ) (es : List (Entry X)) → bound < place → T (below_all nat_cmp bound (pairs_from place es))
  below_pairs bound place [] below = tt
  below_pairs bound place (Occupied value ∷ rest) below =
      T-and_from_both _ _ (is_lt-nat_cmp_from_below bound place below) (below_pairs bound (place + 1) rest (omega arith))
  below_pairs bound place (Vacant next ∷ rest) below = below_pairs bound (place + 1) rest (omega arith)

  -- the pairs of entries are sorted by their places, whatever place the first entry has
  pub sorted_pairs : (place : ℕ) (es : List (Entry X)) → T (is_sorted nat_cmp (pairs_from place es))
  sorted_pairs place [] = tt
  sorted_pairs place (Occupied value ∷ rest) =
      T-and_from_both _ _ (below_pairs place (place + 1) rest (omega arith)) (sorted_pairs (place + 1) rest)
  sorted_pairs place (Vacant next ∷ rest) = sorted_pairs (place + 1) rest

  -- the pairs of the map of live ids are those of the entries, each with its place
  pub entries-live_of : (es : List (Entry X)) → entries (live_of es) ≡ pairs_from 0 es
  entries-live_of es = entries-from_sorted nat_cmp (pairs_from 0 es) (sorted_pairs 0 es)

  find_early : (q place : ℕ) (es : List (Entry X)) → q < place → find nat_cmp q (pairs_from place es) ≡ None
  find_early q place [] early = refl
  find_early q place (Occupied value ∷ rest) early =
      rw (eq_by_cmp_other q place (λ same. omega arith)) (find_early q (place + 1) rest (omega arith))
  find_early q place (Vacant next ∷ rest) early = find_early q (place + 1) rest (omega arith)

  find_pairs : (place i q : ℕ) (es : List (Entry X)) → q ≡ place + i
      → find nat_cmp q (pairs_from place es) ≡ value_of (get_or es i (Vacant 0))
  find_pairs place i q [] at = refl
  find_pairs place zero q (Occupied value ∷ rest) at =
      let here : q ≡ place = omega arith in
      rw (here, eq_by_cmp_same place)
  find_pairs place zero q (Vacant next ∷ rest) at = find_early q (place + 1) rest (omega arith)
  find_pairs place (suc i) q (Occupied value ∷ rest) at =
      rw (eq_by_cmp_other q place (λ same. omega arith)) (find_pairs (place + 1) i q rest (omega arith))
  find_pairs place (suc i) q (Vacant next ∷ rest) at = find_pairs (place + 1) i q rest (omega arith)

  -- what is found under an id is the value of the entry at that place
  pub get-live_of : (es : List (Entry X)) (q : ℕ) → get (live_of es) q ≡ value_of (get_or es q (Vacant 0))
  get-live_of es q = get-from_sorted nat_cmp (pairs_from 0 es) q (sorted_pairs 0 es) ∙ find_pairs 0 q q es (omega arith)

  -- an occupied entry written at a place k within the entries puts its value under id k
  pub live_of-occupied : (es : List (Entry X)) (k : ℕ) (value : X) → k < length es
      → live_of (set es k (Occupied value)) ≡ insert (live_of es) k value
  live_of-occupied es k value within =
      same_map_from_get _ _
      (λ q. elim (cases_eq q k) [
        | inl same ↦ rw same (get-live_of _ k ∙ ap value_of (get_or-set_same es k (Occupied value) (Vacant 0) within)
            ∙ sym (get-insert_same (live_of es) k value))
        | inr differs ↦ get-live_of _ q ∙ ap value_of (get_or-set_other es k q (Occupied value) (Vacant 0) differs)
            ∙ sym (get-live_of es q) ∙ sym (get-insert_other (live_of es) k value q differs)
      ])

  -- a vacant entry written at a place k within the entries takes id k out of the map
  pub live_of-vacant : (es : List (Entry X)) (k next : ℕ) → k < length es → live_of (set es k (Vacant next)) ≡ remove (live_of es) k
  live_of-vacant es k next within =
      same_map_from_get _ _
      (λ q. elim (cases_eq q k) [
        | inl same ↦ rw same (get-live_of _ k ∙ ap value_of (get_or-set_same es k (Vacant next) (Vacant 0) within)
            ∙ sym (get-remove_same (live_of es) k))
        | inr differs ↦ get-live_of _ q ∙ ap value_of (get_or-set_other es k q (Vacant next) (Vacant 0) differs) ∙ sym (get-live_of es q)
            ∙ sym (get-remove_other (live_of es) k q differs)
      ])

  get_or-push_last : (es : List (Entry X)) (e d : Entry X) → get_or (es ++ e ∷ []) (length es) d ≡ e
  get_or-push_last [] e d = refl
  get_or-push_last (x ∷ es) e d = get_or-push_last es e d

  get_or-push_other : (es : List (Entry X)) (e d : Entry X) (q : ℕ) → q ≢ length es → get_or (es ++ e ∷ []) q d ≡ get_or es q d
  get_or-push_other [] e d zero differs = absurd (differs refl)
  get_or-push_other [] e d (suc q) differs = refl
  get_or-push_other (x ∷ es) e d zero differs = refl
  get_or-push_other (x ∷ es) e d (suc q) differs = get_or-push_other es e d q (λ same. differs (ap suc same))

  -- an occupied entry put behind the entries es puts its value under their number as id
  pub live_of-push : (es : List (Entry X)) (value : X) → live_of (es ++ Occupied value ∷ []) ≡ insert (live_of es) (length es) value
  live_of-push es value =
      same_map_from_get _ _
      (λ q. elim (cases_eq q (length es)) [
        | inl same ↦ rw same (get-live_of _ (length es) ∙ ap value_of (get_or-push_last es (Occupied value) (Vacant 0))
            ∙ sym (get-insert_same (live_of es) (length es) value))
        | inr differs ↦ get-live_of _ q ∙ ap value_of (get_or-push_other es (Occupied value) (Vacant 0) q differs)
            ∙ sym (get-live_of es q) ∙ sym (get-insert_other (live_of es) (length es) value q differs)
      ])

  occupied_from_value : (es : List (Entry X)) (k : ℕ) (value : X) → value_of (get_or es k (Vacant 0)) ≡ Some value
      → slice_get es k ≡ Some (Occupied value)
  occupied_from_value [] k value is = absurd (cc)
  occupied_from_value (Occupied other ∷ rest) zero value is = cc
  occupied_from_value (Vacant next ∷ rest) zero value is = absurd (cc)
  occupied_from_value (e ∷ rest) (suc k) value is = occupied_from_value rest k value is

  -- if a value is found under id k, the entry at place k is occupied by it
  pub occupied_at : (es : List (Entry X)) (k : ℕ) (value : X) → get (live_of es) k ≡ Some value → slice_get es k ≡ Some (Occupied value)
  occupied_at es k value found = occupied_from_value es k value (sym (get-live_of es k) ∙ found)

  -- if the entry at place k is occupied by a value, it is found under id k
  pub get-occupied : (es : List (Entry X)) (k : ℕ) (value : X) → slice_get es k ≡ Some (Occupied value) → get (live_of es) k ≡ Some value
  get-occupied es k value found = get-live_of es k ∙ ap value_of (get_or_from_slice_get es k _ (Vacant 0) found)

  -- if the entry at place k is vacant, nothing is found under id k
  pub get-vacant : (es : List (Entry X)) (k next : ℕ) → slice_get es k ≡ Some (Vacant next) → get (live_of es) k ≡ None
  get-vacant es k next found = get-live_of es k ∙ ap value_of (get_or_from_slice_get es k _ (Vacant 0) found)

  -- if there is no entry at place k, nothing is found under id k
  pub get-past : (es : List (Entry X)) (k : ℕ) → slice_get es k ≡ None → get (live_of es) k ≡ None
  get-past es k none = get-live_of es k ∙ ap value_of (past es k none)
    where
      past : (es : List (Entry X)) (k : ℕ) → slice_get es k ≡ None → get_or es k (Vacant 0) ≡ Vacant 0
      past [] k none = refl
      past (e ∷ es) zero none = absurd (cc)
      past (e ∷ es) (suc k) none = past es k none
