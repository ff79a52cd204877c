-- A handle whose value was taken out stays stale.
use Rattle.std.proofs.Common.{◌≡◌, ◌≢◌, ◌⊎◌, ⊎_elim, inl, inr, ℕ, ◌+◌, ◌<◌, ◌≤◌, Bool, true, false, List, [], ◌∷◌, Option, Some, None}
use Rattle.std.proofs.Common.{refl, sym}
use Rattle.std.proofs.Common.{ap, subst, ◌∙◌, arith, min}
use Rattle.std.specs.Prelude.{IsSome, ◌==◌, if◌then◌else◌}
use Rattle.std.specs.Option.{option_and_then}
use Rattle.std.specs.Ordering.{nat_cmp}
use Rattle.std.specs.FinMap.{FinMap, get, insert, remove, get-empty}
use Rattle.std.proofs.lemmas.Bool.{cases_eq}
use Rattle.std.proofs.lemmas.Bool.Decides.{nat_tests}
use Rattle.wic_base.proofs.MapFacts.{get-insert_same, get-insert_other, get-remove_same, get-remove_other}
use Rattle.wic_slab.specs.Order.{Order, next_id}
use Rattle.gen_slab.specs.Handle.{Handle}
use Rattle.gen_slab.specs.GenSlab.{GenState, IsCounted, IsGone, last_count, next_handle, value_in, value_of, with_next, without, rewritten}
use Rattle.gen_slab.specs.Runs.{Step, take_in, take_out, write, IsFresh, Leads, LeadAll, StaleStaysStale}
use Rattle.gen_slab.specs.declared.slab.Held.{Held}

same_number : (a b : ℕ) → (a == b) ≡ true → a ≡ b
same_number a b test = grind (arith, nat_tests)

other_number : (a b : ℕ) → a ≢ b → (a == b) ≡ false
other_number a b apart = grind (arith, nat_tests)

is_same : (a b : ℕ) → a ≡ b → (a == b) ≡ true
is_same a b same = grind (arith, nat_tests)

past_rises : (generation count : ℕ) → generation ≤ count → count ≤ last_count
    → (generation < min (count + 1) last_count) ⊎ (min (count + 1) last_count ≡ last_count)
past_rises generation count below most = ⊎_elim
    (λ same. inr (omega arith))
    (λ apart. inl (omega arith))
    (cases_eq count last_count)

past_stays : (generation count : ℕ) → count ≤ last_count → (generation < count) ⊎ (count ≡ last_count)
    → (generation < min (count + 1) last_count) ⊎ (min (count + 1) last_count ≡ last_count)
past_stays generation count most (inl below) = inl (omega arith)
past_stays generation count most (inr same) = inr (omega arith)

not_now : (generation count : ℕ) → (generation < count) ⊎ (count ≡ last_count) → count ≢ last_count → count ≢ generation
not_now generation count (inl below) apart = λ same. omega arith
not_now generation count (inr same) apart = absurd (apart same)

module _ {X : Type 0} where
  -- another generation finds nothing
  pub none_in : (generation : ℕ) (held : Held X) → held.generation ≢ generation → value_in generation held ≡ None
  none_in generation held apart =
      ap (λ test. if test then Some held.value else None) (other_number held.generation generation apart)

  some_in : (generation : ℕ) (held : Held X) → held.generation ≡ generation → value_in generation held ≡ Some held.value
  some_in generation held same =
      ap (λ test. if test then Some held.value else None) (is_same held.generation generation same)

  found_in : (test : Bool) (value : X) → IsSome (if test then Some value else None) → test ≡ true
  found_in true value some = refl
  found_in false value some = absurd (cc)

  held_of : (generation : ℕ) (o : Option (Held X)) → IsSome (option_and_then (value_in generation) o)
      → (held : Held X) × (o ≡ Some held) × (held.generation ≡ generation)
  held_of generation None some = absurd (cc)
  held_of generation (Some held) some =
      (held, refl, same_number held.generation generation (found_in (held.generation == generation) held.value some))

  -- what a live handle finds
  pub live_held : (s : GenState X) (handle : Handle) → IsSome (value_of s handle)
      → (held : Held X) × (get s.live handle.id ≡ Some held) × (held.generation ≡ handle.generation)
  live_held s handle some = held_of handle.generation (get s.live handle.id) some

  -- one place holds one value
  pub same_held : (o : Option (Held X)) (a b : Held X) → o ≡ Some a → o ≡ Some b → a ≡ b
  same_held o a b is be = let both : Some a ≡ Some b = sym is ∙ be in cc

  none_some : (o : Option (Held X)) (held : Held X) → o ≡ None → o ≡ Some held → ⊥
  none_some o held none some = let both : None ≡ Some held = sym none ∙ some in cc

  -- a value that was taken in is found by its handle
  pub next_lives : (s : GenState X) (value : X) → value_of (with_next s value) (next_handle s) ≡ Some value
  next_lives s value =
      ap (option_and_then (value_in s.count)) (get-insert_same s.live (next_id s.order) (record { generation = s.count; value = value }))
      ∙ some_in s.count (record { generation = s.count; value = value }) refl

  -- ---- counts

  counted_fresh : (s : GenState X) → IsFresh s → IsCounted s
  counted_fresh s fresh = record {
    counted = λ id held found. absurd (none_some (get s.live id) held (ap (λ m. get m id) fresh.none ∙ get-empty nat_cmp id) found);
    at_most = fresh.at_most;
  }

  -- it stays so when the next id gets a value with the generation of the count
  pub counted_next : (s : GenState X) (value : X) → IsCounted s → IsCounted (with_next s value)
  counted_next s value was = record {
    counted = λ id held found. ⊎_elim
        (λ same. let here = same_held _ _ held (get-insert_same s.live (next_id s.order) (record { generation = s.count; value = value }))
        (subst (λ q. get (with_next s value).live q ≡ Some held) same found) in
        omega (arith, ap (λ h. h.generation) here))
        (λ apart. was.counted id held (sym (get-insert_other s.live (next_id s.order) _ id apart) ∙ found))
        (cases_eq id (next_id s.order));
    at_most = was.at_most;
  }

  -- and when a handle is taken out
  pub counted_without : (s : GenState X) (handle : Handle) → IsCounted s → IsCounted (without s handle)
  counted_without s handle was = record {
    counted = λ id held found. ⊎_elim
        (λ same. absurd (none_some _ held (ap (get (remove s.live handle.id)) same ∙ get-remove_same s.live handle.id) found))
        (λ apart. let before = was.counted id held (sym (get-remove_other s.live handle.id id apart) ∙ found) in
        omega (arith, before, was.at_most))
        (cases_eq id handle.id);
    at_most = omega arith;
  }

  -- another value in the same generation
  pub counted_written : (s : GenState X) (id : ℕ) (before : Held X) (value : X) → get s.live id ≡ Some before → IsCounted s
      → IsCounted (record s { live = insert s.live id (record { generation = before.generation; value = value }) })
  counted_written s id before value found was = record {
    counted = λ other held is. ⊎_elim
        (λ same. let here = same_held _ _ held (get-insert_same s.live id (record { generation = before.generation; value = value }))
        (subst (λ q. get (insert s.live id (record { generation = before.generation; value = value })) q ≡ Some held) same is) in
        omega (arith, ap (λ h. h.generation) here, was.counted id before found))
        (λ apart. was.counted other held (sym (get-insert_other s.live id _ other apart) ∙ is))
        (cases_eq other id);
    at_most = was.at_most;
  }

  -- the generations stay within the count when a live handle is written
  pub counted_rewritten : (s : GenState X) (handle : Handle) (value : X) → IsSome (value_of s handle) → IsCounted s
      → IsCounted (rewritten s handle value)
  counted_rewritten s handle value some was =
      let live = live_held s handle some in
      subst (λ n. IsCounted (record s { live = insert s.live handle.id (record { generation = n; value = value }) })) live.2
      (counted_written s handle.id live.0 value live.1 was)

  -- only the live values and the count matter
  pub counted_live : (s : GenState X) (live : FinMap nat_cmp (Held X)) (order : Order) (count : ℕ) → live ≡ s.live → count ≡ s.count
      → IsCounted s → IsCounted (record { live = live; order = order; count = count })
  counted_live s live order count same as_many was = record {
    counted = λ id held found. omega (arith, was.counted id held (ap (λ m. get m id) (sym same) ∙ found), as_many);
    at_most = omega (arith, was.at_most, as_many);
  }

  counted_step : (s next : GenState X) (step : Step X) → IsCounted s → Leads s step next → IsCounted next
  counted_step s next (take_in value) was (inl same) = subst IsCounted (sym same) was
  counted_step s next (take_in value) was (inr done) = subst IsCounted (sym done.1) (counted_next s value was)
  counted_step s next (take_out handle) was (inl same) = subst IsCounted (sym same.1) was
  counted_step s next (take_out handle) was (inr done) = subst IsCounted (sym done.1) (counted_without s handle was)
  counted_step s next (write handle value) was (inl same) = subst IsCounted (sym same.1) was
  counted_step s next (write handle value) was (inr done) =
      subst IsCounted (sym done.1) (counted_rewritten s handle value done.0 was)

  counted_all : (s last : GenState X) (steps : List (Step X)) → IsCounted s → LeadAll s steps last → IsCounted last
  counted_all s last [] was same = subst IsCounted (sym same) was
  counted_all s last (step ∷ steps) was leads =
      counted_all leads.0 last steps (counted_step s leads.0 step was leads.1) leads.2

  -- ---- a handle that is gone

  -- the handle itself is dead then
  pub dead_after : (s : GenState X) (handle : Handle) → value_of (without s handle) handle ≡ None
  dead_after s handle = ap (option_and_then (value_in handle.generation)) (get-remove_same s.live handle.id)

  -- a live handle whose value is taken out is gone
  pub gone_without : (s : GenState X) (handle : Handle) → IsCounted s → IsSome (value_of s handle) → IsGone (without s handle) handle
  gone_without s handle was some =
      let live = live_held s handle some in record {
        dead = dead_after s handle;
        past = past_rises handle.generation s.count (omega (arith, live.2, was.counted handle.id live.0 live.1)) was.at_most;
      }

  dead_next : (s : GenState X) (value : X) (handle : Handle) → s.count ≢ last_count → IsGone s handle
      → value_of (with_next s value) handle ≡ None
  dead_next s value handle apart gone = ⊎_elim
      (λ same. ap (option_and_then (value_in handle.generation))
      (ap (get (with_next s value).live) same ∙ get-insert_same s.live (next_id s.order) (record { generation = s.count; value = value }))
      ∙ none_in handle.generation (record { generation = s.count; value = value }) (not_now handle.generation s.count gone.past apart))
      (λ differs. ap (option_and_then (value_in handle.generation)) (get-insert_other s.live (next_id s.order) _ handle.id differs)
      ∙ gone.dead)
      (cases_eq handle.id (next_id s.order))

  dead_without : (s : GenState X) (other handle : Handle) → IsGone s handle → value_of (without s other) handle ≡ None
  dead_without s other handle gone = ⊎_elim
      (λ same. ap (option_and_then (value_in handle.generation))
      (ap (get (remove s.live other.id)) same ∙ get-remove_same s.live other.id))
      (λ differs. ap (option_and_then (value_in handle.generation)) (get-remove_other s.live other.id handle.id differs) ∙ gone.dead)
      (cases_eq handle.id other.id)

  -- if a dead handle's id is live, it is so in another generation
  other_generation : (s : GenState X) (other handle : Handle) → IsSome (value_of s other) → handle.id ≡ other.id
      → value_of s handle ≡ None → other.generation ≢ handle.generation
  other_generation s other handle some same dead = λ equal.
      let live = live_held s other some in
      let found = ap (option_and_then (value_in handle.generation)) (ap (get s.live) same ∙ live.1)
      ∙ some_in handle.generation live.0 (live.2 ∙ equal) in
      (let both : None ≡ Some live.0.value = sym dead ∙ found in cc)

  dead_rewritten : (s : GenState X) (other handle : Handle) (value : X) → IsSome (value_of s other) → IsGone s handle
      → value_of (rewritten s other value) handle ≡ None
  dead_rewritten s other handle value some gone = ⊎_elim
      (λ same. ap (option_and_then (value_in handle.generation))
      (ap (get (rewritten s other value).live) same
      ∙ get-insert_same s.live other.id (record { generation = other.generation; value = value }))
      ∙ none_in handle.generation (record { generation = other.generation; value = value })
      (other_generation s other handle some same gone.dead))
      (λ differs. ap (option_and_then (value_in handle.generation)) (get-insert_other s.live other.id _ handle.id differs) ∙ gone.dead)
      (cases_eq handle.id other.id)

  -- a gone handle stays gone when a value is held
  pub still_gone_next : (s : GenState X) (value : X) (handle : Handle) → s.count ≢ last_count → IsGone s handle
      → IsGone (with_next s value) handle
  still_gone_next s value handle apart gone = record { dead = dead_next s value handle apart gone; past = gone.past }

  -- and when a value is taken out
  pub still_gone_without : (s : GenState X) (other handle : Handle) → IsCounted s → IsGone s handle → IsGone (without s other) handle
  still_gone_without s other handle was gone =
      record { dead = dead_without s other handle gone; past = past_stays handle.generation s.count was.at_most gone.past }

  -- and when a live handle is written
  pub still_gone_rewritten : (s : GenState X) (other handle : Handle) (value : X) → IsSome (value_of s other) → IsGone s handle
      → IsGone (rewritten s other value) handle
  still_gone_rewritten s other handle value some gone =
      record { dead = dead_rewritten s other handle value some gone; past = gone.past }

  gone_step : (s next : GenState X) (step : Step X) (handle : Handle) → IsCounted s → IsGone s handle → Leads s step next
      → IsGone next handle
  gone_step s next (take_in value) handle was gone (inl same) = subst (λ n. IsGone n handle) (sym same) gone
  gone_step s next (take_in value) handle was gone (inr done) =
      subst (λ n. IsGone n handle) (sym done.1) (still_gone_next s value handle done.0 gone)
  gone_step s next (take_out other) handle was gone (inl same) = subst (λ n. IsGone n handle) (sym same.1) gone
  gone_step s next (take_out other) handle was gone (inr done) =
      subst (λ n. IsGone n handle) (sym done.1) (still_gone_without s other handle was gone)
  gone_step s next (write other value) handle was gone (inl same) = subst (λ n. IsGone n handle) (sym same.1) gone
  gone_step s next (write other value) handle was gone (inr done) =
      subst (λ n. IsGone n handle) (sym done.1) (still_gone_rewritten s other handle value done.0 gone)

  gone_all : (s last : GenState X) (steps : List (Step X)) (handle : Handle) → IsCounted s → IsGone s handle → LeadAll s steps last
      → IsGone last handle
  gone_all s last [] handle was gone same = subst (λ n. IsGone n handle) (sym same) gone
  gone_all s last (step ∷ steps) handle was gone leads =
      gone_all leads.0 last steps handle (counted_step s leads.0 step was leads.1)
      (gone_step s leads.0 step handle was gone leads.1) leads.2

  -- a handle whose value was given back finds nothing from then on
  pub stale_stays_stale : StaleStaysStale X
  stale_stays_stale first before last steps more handle fresh leads some later =
      let was = counted_all first before steps (counted_fresh first fresh) leads in
      (gone_all (without before handle) last more handle (counted_without before handle was)
      (gone_without before handle was some) later).dead
