-- Where no item asks for more than the room, nothing is refused for memory.
use Rattle.std.proofs.Common.{◌≡◌, ◌≢◌, ℕ, ◌<◌, ◌≤◌, Bool, true, false, List, [], ◌∷◌, refl, sym, ap, subst, ◌∙◌, arith, inl, inr, max}
use Rattle.std.specs.Prelude.{nat_le, if◌then◌else◌}
use Rattle.std.proofs.lemmas.Bool.Decides.{nat_tests}
use Rattle.wic_slab.specs.Order.{max_capacity}
use Rattle.std.specs.List.{AllByRecursion}
use Rattle.batch_core.specs.State.{State, empty_state}
use Rattle.batch_script.specs.Machine.{Bodies, ItemOf, reserve, show, batch, Reply, reserved, reserve_too_large, no_memory}
use Rattle.batch_script.specs.Machine.{FitsOver, step_over, AsksForMore, IsBeyondOver, ItemStepOver, RunOver, replies_over, IsPlain}
use Rattle.batch_script.specs.Laws.{AsksForNoMore, FitsIfBatch, BatchesFit, RoomMakesPlainOver, HasOnePlainRunOver}

-- what a reservation comes to, by the test of the limit
abbrev pub reserve_by : Bool → State ℕ → ℕ → Reply × State ℕ
reserve_by within state number =
    if within then (reserved, record state { room = max state.room number }) else (reserve_too_large, state)

-- a reservation that doesn't ask for more leaves the room
reserve_keeps : (within : Bool) (state : State ℕ) (number : ℕ) → nat_le number max_capacity ≡ within → (¬ AsksForMore state.room number)
    → (reserve_by within state number).1.room ≡ state.room
reserve_keeps true state number test more =
    let least : number ≤ max_capacity = grind (arith, nat_tests) in
    let within : ¬ (state.room < number) = λ above. more (above, least) in omega arith
reserve_keeps false state number test more = refl

-- the reply to a reservation is never out of memory
reserve_answers : (within : Bool) (state : State ℕ) (number : ℕ) → (reserve_by within state number).0 ≢ no_memory
reserve_answers true state number = λ same. cc
reserve_answers false state number = λ same. cc

-- the first reservation makes the room
first_room : (within : Bool) (room : ℕ) → within ≡ true → (reserve_by within empty_state room).1.room ≡ room
first_room true room test = omega arith
first_room false room test = absurd (cc)

module _ {B : Type 0} (bodies : Bodies B) where
  -- an item that reserves no more keeps the room
  room_kept : (room : ℕ) (state : State ℕ) (item : ItemOf B) → state.room ≡ room → AsksForNoMore room item
      → (step_over bodies state item).1.room ≡ room
  room_kept room state (reserve number) is least =
      reserve_keeps (nat_le number max_capacity) state number refl (subst (λ r. ¬ AsksForMore r number) (sym is) least) ∙ is
  room_kept room state show is least = is
  room_kept room state (batch body ending) is least = is

  -- an item that reserves no more and fits isn't beyond the room
  not_beyond : (room : ℕ) (state : State ℕ) (item : ItemOf B) → state.room ≡ room → AsksForNoMore room item
      → FitsIfBatch bodies room state item → ¬ IsBeyondOver bodies state item
  not_beyond room state (reserve number) is least fits beyond = least (subst (λ r. AsksForMore r number) is beyond)
  not_beyond room state show is least fits beyond = beyond
  not_beyond room state (batch body ending) is least fits beyond =
      beyond (subst (λ r. FitsOver bodies r state.contents body) (sym is) fits)

  -- the plain reply is never that there was no memory
  plain_answers : (state : State ℕ) (item : ItemOf B) → (step_over bodies state item).0 ≢ no_memory
  plain_answers state (reserve number) = reserve_answers (nat_le number max_capacity) state number
  plain_answers state show = λ same. cc
  plain_answers state (batch body ending) = λ same. cc

  -- the plain run is a run
  plain_is_run : (state : State ℕ) (items : List (ItemOf B)) → RunOver bodies state items (replies_over bodies state items)
  plain_is_run state [] = tt
  plain_is_run state (item ∷ items) = ((step_over bodies state item).1, inl refl, plain_is_run (step_over bodies state item).1 items)

  -- a step that isn't beyond the room is the plain one
  step_is_plain : (state : State ℕ) (item : ItemOf B) (reply : Reply) (next : State ℕ) → (¬ IsBeyondOver bodies state item)
      → ItemStepOver bodies state item reply next → (reply, next) ≡ step_over bodies state item
  step_is_plain state item reply next within (inl plain) = plain
  step_is_plain state item reply next within (inr short) = absurd (within short.0)

  -- no plain reply is that there was no memory
  plain_replies_plain : (state : State ℕ) (items : List (ItemOf B)) → IsPlain (replies_over bodies state items)
  plain_replies_plain state [] = tt
  plain_replies_plain state (item ∷ items) = (plain_answers state item, plain_replies_plain (step_over bodies state item).1 items)

  -- a step whose reply isn't out of memory is the plain one
  answered_is_plain : (state : State ℕ) (item : ItemOf B) (reply : Reply) (next : State ℕ) → ItemStepOver bodies state item reply next
      → reply ≢ no_memory → (reply, next) ≡ step_over bodies state item
  answered_is_plain state item reply next (inl plain) found = plain
  answered_is_plain state item reply next (inr short) found = absurd (found short.1)

  -- a run in which nothing is refused for memory is the plain one
  plain_alone : (state : State ℕ) (items : List (ItemOf B)) (replies : List Reply) → RunOver bodies state items replies → IsPlain replies
      → replies ≡ replies_over bodies state items
  plain_alone state [] [] run found = refl
  plain_alone state [] (reply ∷ replies) run found = absurd run
  plain_alone state (item ∷ items) [] run found = absurd run
  plain_alone state (item ∷ items) (reply ∷ replies) run found =
      let step = answered_is_plain state item reply run.0 run.1 found.0 in
      let first : reply ≡ (step_over bodies state item).0 = ap (λ p. p.0) step in
      let next : run.0 ≡ (step_over bodies state item).1 = ap (λ p. p.1) step in
      let later : replies ≡ replies_over bodies (step_over bodies state item).1 items =
      plain_alone (step_over bodies state item).1 items replies (subst (λ s. RunOver bodies s items replies) next run.2) found.1 in
      cc

  -- in a run from a state with this room, if no item asks for more, nothing is refused for memory
  within_is_plain : (room : ℕ) (state : State ℕ) (items : List (ItemOf B)) (replies : List Reply) → state.room ≡ room
      → RunOver bodies state items replies → AllByRecursion (AsksForNoMore room) items
      → BatchesFit bodies room state items → IsPlain replies
  within_is_plain room state [] [] is run least fits = tt
  within_is_plain room state [] (reply ∷ replies) is run least fits = absurd run
  within_is_plain room state (item ∷ items) [] is run least fits = absurd run
  within_is_plain room state (item ∷ items) (reply ∷ replies) is run least fits =
      let step = step_is_plain state item reply run.0 (not_beyond room state item is least.0 fits.0) run.1 in
      let first : reply ≡ (step_over bodies state item).0 = ap (λ p. p.0) step in
      let next : run.0 ≡ (step_over bodies state item).1 = ap (λ p. p.1) step in (
        (λ none. plain_answers state item (sym first ∙ none)),
        within_is_plain room (step_over bodies state item).1 items replies (room_kept room state item is least.0)
            (subst (λ s. RunOver bodies s items replies) next run.2) least.1 fits.1,
      )

  -- a run is the plain one if it begins by reserving a room, no later item asks for more, and each batch fits that room
  pub plain_with_room : RoomMakesPlainOver bodies
  plain_with_room room items replies limit run least fits =
      let after = (step_over bodies empty_state (reserve room)).1 in
      let step = answered_is_plain empty_state (reserve room) reserved run.0 run.1 (λ same. cc) in
      let next : run.0 ≡ after = ap (λ p. p.1) step in
      let test : nat_le room max_capacity ≡ true = grind (arith, nat_tests) in
      let plain : IsPlain (reserved ∷ replies) = (
        (λ same. cc),
        within_is_plain room after items replies (first_room (nat_le room max_capacity) room test)
            (subst (λ s. RunOver bodies s items replies) next run.2) least fits.1,
      ) in
      record { same = plain_alone empty_state (reserve room ∷ items) (reserved ∷ replies) run plain; plain = plain }

  -- the items have exactly one run in which nothing is refused for memory
  pub one_plain_run : (items : List (ItemOf B)) → HasOnePlainRunOver bodies items
  one_plain_run items = record {
    runs = plain_is_run empty_state items;
    is_plain = plain_replies_plain empty_state items;
    alone = plain_alone empty_state items;
  }
