-- Maps of numbers: what reads find after a write and a removal, what these undo, and the pairs in ascending order.
use Rattle.std.proofs.Common.{◌&&◌, ◌<◌, ◌≤◌, ◌≡◌, ◌≢◌, ◌+◌, ◌-◌, ℕ, zero, suc, Bool, T, true, false, true≢false}
use Rattle.std.proofs.Common.{Option, Some, None, is_some, List, [], ◌∷◌, inl, inr, refl, sym, ap, ◌∙◌, arith, nat_cmp}
use Rattle.std.proofs.lemmas.Bool.{cases_eq, cases_lt}
use Rattle.std.proofs.lemmas.Bool.Decides.{nat_tests}
use Rattle.std.specs.Ordering.{eq_by_cmp, is_lt}
use Rattle.std.specs.Cmp.{nat_cmp_total}
use Rattle.std.specs.FinMap.{FinMap, get, insert, remove, contains_key, len, find, is_sorted, entries, from_sorted}
use Rattle.std.specs.FinMap.{get-insert, get-remove, len-insert, len-remove, same_map, nat_cmp-IsAntisymmetric, empty_of_len, get-empty}
use Rattle.std.specs.FinMap.{get-entries, entries_sorted, get-from_sorted, entries-from_sorted}
use Rattle.std.specs.FinMap.Entries.{below_all}

-- by nat_cmp a number is equal to itself
pub eq_by_cmp_same : (k : ℕ) → eq_by_cmp nat_cmp k k ≡ true
eq_by_cmp_same k = grind (arith, nat_tests)

-- by nat_cmp two different numbers are not equal
pub eq_by_cmp_other : (q k : ℕ) → q ≢ k → eq_by_cmp nat_cmp q k ≡ false
eq_by_cmp_other q k differs = grind (arith, nat_tests)

-- b is true if T holds of it
pub equals_true_from_T : (b : Bool) → T b → b ≡ true
equals_true_from_T true p = refl
equals_true_from_T false p = absurd p

-- T holds of a && b if it holds of a and of b
pub T-and_from_both : (a b : Bool) → T a → T b → T (a && b)
T-and_from_both true b p q = q
T-and_from_both false b p q = p

-- nat_cmp of a and b is less if a is below b
pub is_lt-nat_cmp_from_below : (a b : ℕ) → a < b → T (is_lt (nat_cmp a b))
is_lt-nat_cmp_from_below a b below = grind (arith, nat_tests)

module _ {X : Type 0} where
  -- under a key that a value was written to, that value is found
  pub get-insert_same : (m : FinMap nat_cmp X) (k : ℕ) (v : X) → get (insert m k v) k ≡ Some v
  get-insert_same m k v = rw (get-insert nat_cmp_total, eq_by_cmp_same)

  -- under each other key than the one that was written to, the same is found as before
  pub get-insert_other : (m : FinMap nat_cmp X) (k : ℕ) (v : X) (q : ℕ) → q ≢ k → get (insert m k v) q ≡ get m q
  get-insert_other m k v q differs = rw (get-insert nat_cmp_total, eq_by_cmp_other q k differs)

  -- under a key that was taken out, nothing is found
  pub get-remove_same : (m : FinMap nat_cmp X) (k : ℕ) → get (remove m k) k ≡ None
  get-remove_same m k = rw (get-remove nat_cmp_total, eq_by_cmp_same)

  -- under each other key than the one that was taken out, the same is found as before
  pub get-remove_other : (m : FinMap nat_cmp X) (k q : ℕ) → q ≢ k → get (remove m k) q ≡ get m q
  get-remove_other m k q differs = rw (get-remove nat_cmp_total, eq_by_cmp_other q k differs)

  -- two maps that find the same under each key are equal
  pub same_map_from_get : (m n : FinMap nat_cmp X) → ((q : ℕ) → get m q ≡ get n q) → m ≡ n
  same_map_from_get = same_map nat_cmp_total nat_cmp-IsAntisymmetric

  -- a value that is taken out and put back leaves the map as it was
  pub insert-remove : (m : FinMap nat_cmp X) (k : ℕ) (v : X) → get m k ≡ Some v → insert (remove m k) k v ≡ m
  insert-remove m k v found =
      same_map_from_get _ _
      (λ q. elim (cases_eq q k) [
        | inl same ↦ rw same (get-insert_same _ k v ∙ sym found)
        | inr differs ↦ get-insert_other _ k v q differs ∙ get-remove_other m k q differs
      ])

  -- a value that is put under a key with none and taken out leaves the map as it was
  pub remove-insert : (m : FinMap nat_cmp X) (k : ℕ) (v : X) → get m k ≡ None → remove (insert m k v) k ≡ m
  remove-insert m k v none =
      same_map_from_get _ _
      (λ q. elim (cases_eq q k) [
        | inl same ↦ rw same (get-remove_same _ k ∙ sym none)
        | inr differs ↦ get-remove_other _ k q differs ∙ get-insert_other m k v q differs
      ])

  -- a value that is written over another, and gives way to it again, leaves the map as it was
  pub insert_back : (m : FinMap nat_cmp X) (k : ℕ) (v old : X) → get m k ≡ Some old → insert (insert m k v) k old ≡ m
  insert_back m k v old found =
      same_map_from_get _ _
      (λ q. elim (cases_eq q k) [
        | inl same ↦ rw same (get-insert_same _ k old ∙ sym found)
        | inr differs ↦ get-insert_other _ k old q differs ∙ get-insert_other m k v q differs
      ])

  -- an option that is not Some is None
  pub none_from_not_some : (o : Option X) → is_some o ≡ false → o ≡ None
  none_from_not_some None e = refl
  none_from_not_some (Some v) e = cc

  -- a value written under a new key makes one key more
  pub len-insert_new : (m : FinMap nat_cmp X) (k : ℕ) (v : X) → contains_key m k ≡ false → len (insert m k v) ≡ len m + 1
  len-insert_new m k v none = rw (len-insert nat_cmp_total, none)

  -- a value written under a key of the map leaves the number of keys
  pub len-insert_again : (m : FinMap nat_cmp X) (k : ℕ) (v : X) → contains_key m k ≡ true → len (insert m k v) ≡ len m
  len-insert_again m k v live = rw (len-insert nat_cmp_total, live)

  -- a key that is taken out makes one key less
  pub len-remove_key : (m : FinMap nat_cmp X) (k : ℕ) → contains_key m k ≡ true → len (remove m k) ≡ len m - 1
  len-remove_key m k live = rw (len-remove nat_cmp_total, live)

  value_from_some : (o : Option X) → is_some o ≡ true → (value : X) × (o ≡ Some value)
  value_from_some None e = absurd (cc)
  value_from_some (Some value) e = (value, refl)

  -- there is a value under a key of the map
  pub value_at_key : (m : FinMap nat_cmp X) (k : ℕ) → contains_key m k ≡ true → (value : X) × (get m k ≡ Some value)
  value_at_key m k live = value_from_some (get m k) live

  -- a map with a key has more than 0 of them
  pub len_positive_from_key : (m : FinMap nat_cmp X) (k : ℕ) → contains_key m k ≡ true → 0 < len m
  len_positive_from_key m k live = by_len (len m) refl
    where
      by_len : (n : ℕ) → len m ≡ n → 0 < len m
      by_len zero none = absurd (true≢false (sym live ∙ ap is_some (ap (λ x. get x k) (empty_of_len m none) ∙ get-empty nat_cmp k)))
      by_len (suc n) some = omega arith

  -- a value written under a key of the map leaves the same keys
  pub contains_key-insert_again : (m : FinMap nat_cmp X) (k : ℕ) (v : X) (q : ℕ) → contains_key m k ≡ true
      → contains_key (insert m k v) q ≡ contains_key m q
  contains_key-insert_again m k v q live =
      elim (cases_eq q k) [
        | inl same ↦ rw same (ap is_some (get-insert_same m k v) ∙ sym live)
        | inr differs ↦ ap is_some (get-insert_other m k v q differs)
      ]

  -- the map n that was made of m with a value written under a key has that key
  pub key_once_inserted : (m n : FinMap nat_cmp X) (k id : ℕ) (v : X) → n ≡ insert m k v → id ≡ k → contains_key n id ≡ true
  key_once_inserted m n k id v made same = rw (made, same) (ap is_some (get-insert_same m k v))

  -- the map n that was made of m with a value under a new key has one key more than m
  pub one_more_inserted : (m n : FinMap nat_cmp X) (k : ℕ) (v : X) → n ≡ insert m k v → contains_key m k ≡ false → len n ≡ len m + 1
  one_more_inserted m n k v made none = rw made (len-insert_new m k v none)

  -- the map n that was made of m by taking out a key has one key less than m
  pub one_less_removed : (m n : FinMap nat_cmp X) (k : ℕ) → n ≡ remove m k → contains_key m k ≡ true → len n + 1 ≡ len m
  one_less_removed m n k made live = rw made (omega (arith, len-remove_key m k live, len_positive_from_key m k live))

  -- if nothing is found up to a number, each entry is above it
  all_above : (bound : ℕ) (es : List (ℕ × X)) → ((q : ℕ) → q ≤ bound → find nat_cmp q es ≡ None) → T (below_all nat_cmp bound es)
  all_above bound [] none = tt
  all_above bound (e ∷ es) none =
      T-and_from_both _ _
      (is_lt-nat_cmp_from_below bound e.0 (elim (cases_lt bound e.0) [ inl below ↦ below | inr above ↦ absurd (here above) ]))
      (all_above bound es rest)
    where
      here : e.0 ≤ bound → ⊥
      here above =
          let found : find nat_cmp e.0 (e ∷ es) ≡ Some e.1 = rw (eq_by_cmp_same e.0) in
          let missed = none e.0 above in
          cc

      rest : (q : ℕ) → q ≤ bound → find nat_cmp q es ≡ None
      rest q within =
          elim (cases_eq q e.0) [
            | inl same ↦ absurd (here (omega arith))
            | inr differs ↦ rw (eq_by_cmp_other q e.0 differs) at (none q within)
          ]

  -- the pair of the least key stands first
  pub entries_first : (m : FinMap nat_cmp X) (id : ℕ) (value : X) → ((q : ℕ) → q < id → get m q ≡ None) → get m id ≡ Some value
      → entries m ≡ (id, value) ∷ entries (remove m id)
  entries_first m id value none found =
      let rest = remove m id in
      let missed : (q : ℕ) → q ≤ id → find nat_cmp q (entries rest) ≡ None =
      λ q within. sym (get-entries rest q) ∙ elim (cases_eq q id) [
        | inl same ↦ rw same (get-remove_same m id)
        | inr differs ↦ get-remove_other m id q differs ∙ none q (omega arith)
      ] in
      let sorted : T (is_sorted nat_cmp ((id, value) ∷ entries rest)) =
      T-and_from_both _ _ (all_above id (entries rest) missed) (entries_sorted rest) in
      let same : m ≡ from_sorted ((id, value) ∷ entries rest) =
      same_map_from_get _ _ (λ q. sym (get-from_sorted nat_cmp ((id, value) ∷ entries rest) q sorted ∙ at q)) in
      ap entries same ∙ entries-from_sorted nat_cmp _ sorted
    where
      at : (q : ℕ) → find nat_cmp q ((id, value) ∷ entries (remove m id)) ≡ get m q
      at q = elim (cases_eq q id) [
        | inl same ↦ rw (same, eq_by_cmp_same id) (sym found)
        | inr differs ↦ rw (eq_by_cmp_other q id differs) (sym (get-entries (remove m id) q) ∙ get-remove_other m id q differs)
      ]

  -- if nothing is found, there is no pair
  pub entries_none : (m : FinMap nat_cmp X) → ((q : ℕ) → get m q ≡ None) → entries m ≡ []
  entries_none m none = no_entries (entries m) (λ q. sym (get-entries m q) ∙ none q)
    where
      no_entries : (es : List (ℕ × X)) → ((q : ℕ) → find nat_cmp q es ≡ None) → es ≡ []
      no_entries [] none = refl
      no_entries (e ∷ es) none =
          let found : find nat_cmp e.0 (e ∷ es) ≡ Some e.1 = rw (eq_by_cmp_same e.0) in
          let missed = none e.0 in
          absurd (cc)
