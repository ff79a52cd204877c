-- What a step leaves of the other handles.
use Rattle.std.proofs.Common.{◌≡◌, ◌≢◌, ℕ, ◌+◌, min, Some, None, Option, ⊎_elim, is_some, true≢false, refl, sym, subst, ap, ◌∙◌}
use Rattle.std.specs.Prelude.{IsSome}
use Rattle.std.specs.Option.{option_and_then}
use Rattle.std.specs.FinMap.{get, insert, remove}
use Rattle.std.proofs.lemmas.Bool.{cases_eq}
use Rattle.wic_base.proofs.MapFacts.{get-insert_same, get-insert_other, get-remove_same, get-remove_other}
use Rattle.wic_base.proofs.MapFacts.{len-insert_again, contains_key-insert_again, none_from_not_some}
use Rattle.wic_slab.specs.Order.{BelongsTo, next_id, take_next, give_back}
use Rattle.wic_slab.proofs.OrderFacts.{next_id_not_live}
use Rattle.gen_slab.specs.Handle.{Handle}
use Rattle.gen_slab.specs.GenSlab.{GenState, IsCounted, IsGenState, KeepsGone, KeepsLive, KeepsOthers, WritesOnly}
use Rattle.gen_slab.specs.GenSlab.{last_count, value_in, value_of, with_next, without, rewritten}
use Rattle.gen_slab.proofs.StaleFacts.{none_in, live_held, same_held, counted_rewritten}
use Rattle.gen_slab.proofs.StaleFacts.{still_gone_next, still_gone_without, still_gone_rewritten}

module _ {X : Type 0} where
  -- a handle of the next id isn't live
  pub next_was_dead : (s : GenState X) (generation : ℕ) → BelongsTo s.order s.live
      → value_of s (record { id = next_id s.order; generation = generation }) ≡ None
  next_was_dead s generation belongs =
      ap (option_and_then (value_in generation))
      (none_from_not_some (get s.live (next_id s.order)) (next_id_not_live s.order s.live belongs))

  -- two live handles of one id are the same
  one_live : (s : GenState X) (a b : Handle) → IsSome (value_of s a) → IsSome (value_of s b) → a.id ≡ b.id → a ≡ b
  one_live s a b here there same =
      let held = live_held s a here in
      let other = live_held s b there in
      let both = same_held (get s.live a.id) held.0 other.0 held.1 (ap (get s.live) same ∙ other.1) in
      let generation = sym held.2 ∙ ap (λ h. h.generation) both ∙ other.2 in
      (λ i. record { id = same i; generation = generation i })

  -- holding a value keeps those of the live handles
  pub kept_next : (s : GenState X) (value : X) → BelongsTo s.order s.live → KeepsLive s (with_next s value)
  kept_next s value belongs handle some =
      ap (option_and_then (value_in handle.generation)) (get-insert_other s.live (next_id s.order) _ handle.id apart)
    where
      apart : handle.id ≢ next_id s.order
      apart same =
          let dead = ap is_some (next_was_dead s handle.generation belongs) in
          true≢false (sym some ∙ ap (λ id. is_some (value_of s (record { id = id; generation = handle.generation }))) same ∙ dead)

  none_if_not : (o : Option X) → (IsSome o → ⊥) → o ≡ None
  none_if_not None dead = refl
  none_if_not (Some value) dead = absurd (dead refl)

  -- a handle of a live handle's id that isn't that one finds nothing
  dead_beside : (s : GenState X) (handle other : Handle) → IsSome (value_of s handle) → other ≢ handle → other.id ≡ handle.id
      → value_of s other ≡ None
  dead_beside s handle other some apart same =
      none_if_not (value_of s other) (λ lives. apart (one_live s other handle lives some same))

  -- taking a value out keeps what the other handles find
  pub kept_without : (s : GenState X) (handle : Handle) → IsSome (value_of s handle) → KeepsOthers handle s (without s handle)
  kept_without s handle some other apart = ⊎_elim
      (λ same. ap (option_and_then (value_in other.generation))
      (ap (get (remove s.live handle.id)) same ∙ get-remove_same s.live handle.id)
      ∙ sym (dead_beside s handle other some apart same))
      (λ differs. ap (option_and_then (value_in other.generation)) (get-remove_other s.live handle.id other.id differs))
      (cases_eq other.id handle.id)

  -- writing a value keeps what the other handles find
  pub kept_rewritten : (s : GenState X) (handle : Handle) (value : X) → IsSome (value_of s handle)
      → KeepsOthers handle s (rewritten s handle value)
  kept_rewritten s handle value some other apart = ⊎_elim
      (λ same. ap (option_and_then (value_in other.generation))
      (ap (get (rewritten s handle value).live) same
      ∙ get-insert_same s.live handle.id (record { generation = handle.generation; value = value }))
      ∙ none_in other.generation (record { generation = handle.generation; value = value })
      (λ equal. apart (λ i. record { id = same i; generation = sym equal i }))
      ∙ sym (dead_beside s handle other some apart same))
      (λ differs. ap (option_and_then (value_in other.generation)) (get-insert_other s.live handle.id _ other.id differs))
      (cases_eq other.id handle.id)

  -- a sound state stays so when a live handle is written
  sound_rewritten : (s : GenState X) (handle : Handle) (value : X) → IsGenState s → IsSome (value_of s handle)
      → IsGenState (rewritten s handle value)
  sound_rewritten s handle value sound some =
      let live = ap is_some (live_held s handle some).1 in record {
        ordered = sound.ordered;
        belongs = λ id. contains_key-insert_again s.live handle.id _ id live ∙ sound.belongs id;
        counts = counted_rewritten s handle value some sound.counts;
      }

  -- a write under a live handle changes its value alone
  pub writes_only : (s : GenState X) (handle : Handle) → IsGenState s → IsSome (value_of s handle) → WritesOnly s handle
  writes_only s handle sound some = record {
    same_len = λ value. len-insert_again s.live handle.id _ (ap is_some (live_held s handle some).1);
    keeps = λ value. kept_rewritten s handle value some;
    keeps_gone = λ value other. still_gone_rewritten s handle other value some;
    sound = λ value. sound_rewritten s handle value sound some;
  }

  -- live ids and order as after holding a value, at the same count: the state with it
  pub next_made : (old new : GenState X) (value : X)
      → new.live ≡ insert old.live (next_id old.order) (record { generation = old.count; value = value })
      → new.order ≡ take_next old.order → new.count ≡ old.count → new ≡ with_next old value
  next_made old new value live order count = λ i. record { live = live i; order = order i; count = count i }

  -- live ids and order as after freeing the id of a handle, at the next count: the state without its value
  pub without_made : (old new : GenState X) (given handle : Handle) → given ≡ handle
      → new.live ≡ remove old.live given.id → new.order ≡ give_back old.order given.id → new.count ≡ min (old.count + 1) last_count
      → new ≡ without old handle
  without_made old new given handle same live order count = λ i. record {
    live = (live ∙ ap (λ h. remove old.live h.id) same) i;
    order = (order ∙ ap (λ h. give_back old.order h.id) same) i;
    count = count i;
  }

  -- the state with a held value keeps the live handles
  pub keeps_next : (old new : GenState X) (value : X) → BelongsTo old.order old.live → new ≡ with_next old value → KeepsLive old new
  keeps_next old new value belongs is = subst (KeepsLive old) (sym is) (kept_next old value belongs)

  -- and keeps what is gone
  pub keeps_gone_next : (old new : GenState X) (value : X) → old.count ≢ last_count → new ≡ with_next old value → KeepsGone old new
  keeps_gone_next old new value apart is =
      subst (KeepsGone old) (sym is) (λ handle. still_gone_next old value handle apart)

  -- the state without the value of a live handle keeps the other handles
  pub keeps_without : (old new : GenState X) (handle : Handle) → IsSome (value_of old handle) → new ≡ without old handle
      → KeepsOthers handle old new
  keeps_without old new handle some is = subst (KeepsOthers handle old) (sym is) (kept_without old handle some)

  -- and keeps what is gone
  pub keeps_gone_without : (old new : GenState X) (handle : Handle) → IsCounted old → new ≡ without old handle → KeepsGone old new
  keeps_gone_without old new handle was is =
      subst (KeepsGone old) (sym is) (λ other. still_gone_without old handle other was)
