-- How taking the next id and giving one back change the order.
use Rattle.std.proofs.Common.{max, length, ◌-◌, ◌≡◌, ◌≢◌, ℕ, ◌+◌, ◌<◌, ◌≤◌, Bool, true, false, cond, not, ◌&&◌, List, [], ◌∷◌}
use Rattle.std.proofs.Common.{nat_eq, nat_lt, is_some, inl, inr, refl, sym, ap, ◌∙◌, arith, nat_cmp}
use Rattle.std.proofs.lemmas.Bool.{cases_eq, or_parts}
use Rattle.std.proofs.lemmas.Bool.Decides.{nat_tests}
use Rattle.std.specs.List.{AllByRecursion, IsDistinct, list_any}
use Rattle.std.specs.FinMap.{FinMap, insert, remove, contains_key}
use Rattle.wic_slab.specs.Order.{Order, max_capacity, from_zero, next_id, take_from, take_next, give_to, give_back, last_or, is_vacant}
use Rattle.wic_slab.specs.Order.{IsOrder, BelongsTo}
use Rattle.wic_base.proofs.MapFacts.{get-insert_same, get-insert_other, get-remove_same, get-remove_other}

-- nat_eq holds of a number and itself
pub nat_eq_same : (k : ℕ) → nat_eq k k ≡ true
nat_eq_same k = grind (arith, nat_tests)

-- nat_eq fails for two different numbers
pub nat_eq_other : (q k : ℕ) → q ≢ k → nat_eq q k ≡ false
nat_eq_other q k differs = grind (arith, nat_tests)

first_of : (a b : Bool) → (a && not b) ≡ true → a ≡ true
first_of true b e = refl
first_of false b e = absurd (cc)

second_of : (a b : Bool) → (a && not b) ≡ true → b ≡ false
second_of true true e = absurd (cc)
second_of true false e = refl
second_of false b e = absurd (cc)

and-false : (a : Bool) → (a && false) ≡ false
and-false true = refl
and-false false = refl

nat_lt_true : (a b : ℕ) → a < b → nat_lt a b ≡ true
nat_lt_true a b below = grind (arith, nat_tests)

nat_lt_false : (a b : ℕ) → b ≤ a → nat_lt a b ≡ false
nat_lt_false a b above = grind (arith, nat_tests)

below_from_test : (a b : ℕ) → nat_lt a b ≡ true → a < b
below_from_test a b holds = grind (arith, nat_tests)

nat_lt_alike : (a b c d : ℕ) → (a < b → c < d) → (c < d → a < b) → nat_lt a b ≡ nat_lt c d
nat_lt_alike a b c d there back = grind (arith, nat_tests)

-- an id that is none of a list's
not_any_from_all : (id : ℕ) (ids : List ℕ) → AllByRecursion (λ other. nat_eq id other ≡ false) ids → list_any (nat_eq id) ids ≡ false
not_any_from_all id [] all = refl
not_any_from_all id (other ∷ ids) all = rw all.0 (not_any_from_all id ids all.1)

all_from_not_any : (id : ℕ) (ids : List ℕ) → list_any (nat_eq id) ids ≡ false → AllByRecursion (λ other. nat_eq id other ≡ false) ids
all_from_not_any id [] none = tt
all_from_not_any id (other ∷ ids) none =
    ((or_parts (nat_eq id other) _ none).0, all_from_not_any id ids (or_parts (nat_eq id other) _ none).1)

-- a number that each of a list is below is none of them
not_any_above : (bound id : ℕ) (ids : List ℕ) → bound ≤ id → AllByRecursion (λ other. other < bound) ids
    → list_any (nat_eq id) ids ≡ false
not_any_above bound id [] above all = refl
not_any_above bound id (other ∷ ids) above all =
    rw (nat_eq_other id other (λ same. omega (arith, all.0))) (not_any_above bound id ids above all.1)

all_below_more : (bound more : ℕ) (ids : List ℕ) → bound ≤ more → AllByRecursion (λ id. id < bound) ids
    → AllByRecursion (λ id. id < more) ids
all_below_more bound more [] within all = tt
all_below_more bound more (id ∷ ids) within all = (omega (arith, all.0), all_below_more bound more ids within all.1)

-- what is given back to the front is what the next id was
give_to-take_from : (vacant : List ℕ) (fresh : ℕ) → last_or fresh vacant + 1 ≢ fresh
    → give_back (take_from vacant fresh) (next_id (record { vacant = vacant; fresh = fresh })) ≡ record { vacant = vacant; fresh = fresh }
give_to-take_from [] fresh apart = rw (nat_eq_same (fresh + 1))
give_to-take_from (id ∷ []) fresh apart = rw (nat_eq_other (id + 1) fresh apart)
give_to-take_from (id ∷ next ∷ vacant) fresh apart = refl

-- the next id of a valid order, taken and given back, leaves the order as it was
pub give_back-take_next : (o : Order) → IsOrder o → give_back (take_next o) (next_id o) ≡ o
give_back-take_next o valid = give_to-take_from o.vacant o.fresh valid.last_apart

next_id-give_to : (vacant : List ℕ) (fresh id : ℕ) → next_id (give_to vacant fresh id) ≡ id
next_id-give_to [] fresh id = elim (nat_eq (id + 1) fresh) as
    (λ b. next_id (cond b (record { vacant = []; fresh = id }) (record { vacant = id ∷ []; fresh = fresh })) ≡ id)
    [ true ↦ refl | false ↦ refl ]
next_id-give_to (next ∷ vacant) fresh id = refl

-- an id that was given back is the next one
pub next_id-give_back : (o : Order) (id : ℕ) → next_id (give_back o id) ≡ id
next_id-give_back o id = next_id-give_to o.vacant o.fresh id

take_next-give_to : (vacant : List ℕ) (fresh id : ℕ) → take_next (give_to vacant fresh id) ≡ record { vacant = vacant; fresh = fresh }
take_next-give_to [] fresh id =
    elim (cases_eq (id + 1) fresh) [
      | inl same ↦ rw (same, nat_eq_same fresh) (ap (λ f. record { vacant = []; fresh = f }) same)
      | inr differs ↦ rw (nat_eq_other (id + 1) fresh differs)
    ]
take_next-give_to (next ∷ vacant) fresh id = refl

-- an id that is given back and taken as the next one leaves the order as it was
pub take_next-give_back : (o : Order) (id : ℕ) → take_next (give_back o id) ≡ o
take_next-give_back o id = take_next-give_to o.vacant o.fresh id

next_is_vacant_by : (vacant : List ℕ) (fresh : ℕ)
    → (nat_lt (next_id (record { vacant = vacant; fresh = fresh })) fresh && not
    (list_any (nat_eq (next_id (record { vacant = vacant; fresh = fresh }))) vacant)) ≡ false
next_is_vacant_by [] fresh = rw (nat_lt_false fresh fresh (omega arith))
next_is_vacant_by (id ∷ ids) fresh = rw (nat_eq_same id) (and-false _)

module _ {T : Type 0} where
  -- the next id isn't live
  pub next_id_not_live : (o : Order) (live : FinMap nat_cmp T) → BelongsTo o live → contains_key live (next_id o) ≡ false
  next_id_not_live o live belongs = belongs (next_id o) ∙ next_is_vacant_by o.vacant o.fresh

  -- a live id is below the first fresh one
  pub live_below : (o : Order) (live : FinMap nat_cmp T) (id : ℕ) → BelongsTo o live → contains_key live id ≡ true → id < o.fresh
  live_below o live id belongs found = below_from_test _ _ (first_of _ _ (sym (belongs id) ∙ found))

  -- a live id isn't vacant
  pub live_not_vacant : (o : Order) (live : FinMap nat_cmp T) (id : ℕ) → BelongsTo o live → contains_key live id ≡ true
      → is_vacant o id ≡ false
  live_not_vacant o live id belongs found = second_of _ _ (sym (belongs id) ∙ found)

distinct_first : (id : ℕ) (ids : List ℕ) → IsDistinct nat_eq (id ∷ ids) → list_any (nat_eq id) ids ≡ false
unfolding IsDistinct
distinct_first id ids distinct = not_any_from_all id ids distinct.0

distinct_rest : (id : ℕ) (ids : List ℕ) → IsDistinct nat_eq (id ∷ ids) → IsDistinct nat_eq ids
unfolding IsDistinct
distinct_rest id ids distinct = distinct.1

distinct_none : IsDistinct nat_eq []
unfolding IsDistinct
distinct_none = tt

distinct_more : (id : ℕ) (ids : List ℕ) → list_any (nat_eq id) ids ≡ false → IsDistinct nat_eq ids → IsDistinct nat_eq (id ∷ ids)
unfolding IsDistinct
distinct_more id ids none distinct = (all_from_not_any id ids none, distinct)

last_of_rest : (otherwise id : ℕ) (ids : List ℕ) → last_or id ids + 1 ≢ otherwise → last_or otherwise ids + 1 ≢ otherwise
last_of_rest otherwise id [] apart = λ same. omega arith
last_of_rest otherwise id (next ∷ ids) apart = apart

is_order_taken : (vacant : List ℕ) (fresh : ℕ) → IsOrder (record { vacant = vacant; fresh = fresh })
    → next_id (record { vacant = vacant; fresh = fresh }) < max_capacity → IsOrder (take_from vacant fresh)
is_order_taken [] fresh valid room =
    record { distinct = distinct_none; below = tt; last_apart = λ same. omega arith; at_most = omega arith }
is_order_taken (id ∷ ids) fresh valid room =
    record {
      distinct = distinct_rest id ids valid.distinct;
      below = valid.below.1;
      last_apart = last_of_rest fresh id ids valid.last_apart;
      at_most = valid.at_most;
    }

-- a valid order stays valid when its next id is taken, if that id is below the greatest number of live ids
pub IsOrder-take_next : (o : Order) → IsOrder o → next_id o < max_capacity → IsOrder (take_next o)
IsOrder-take_next o valid room = is_order_taken o.vacant o.fresh valid room

is_order_given : (vacant : List ℕ) (fresh id : ℕ) → IsOrder (record { vacant = vacant; fresh = fresh }) → id < fresh
    → list_any (nat_eq id) vacant ≡ false → IsOrder (give_to vacant fresh id)
is_order_given [] fresh id valid below apart =
    elim (cases_eq (id + 1) fresh) [
      | inl same ↦ rw (same, nat_eq_same fresh)
          (record { distinct = distinct_none; below = tt; last_apart = λ e. omega arith; at_most = omega (arith, valid.at_most) })
      | inr differs ↦ rw (nat_eq_other (id + 1) fresh differs)
          (record {
            distinct = distinct_more id [] refl distinct_none;
            below = (below, tt);
            last_apart = differs;
            at_most =
                valid.at_most;
          })
    ]
is_order_given (next ∷ ids) fresh id valid below apart =
    record {
      distinct = distinct_more id (next ∷ ids) apart valid.distinct;
      below = (below, valid.below);
      last_apart = valid.last_apart;
      at_most = valid.at_most;
    }

-- a valid order stays valid when an id is given back that is below the first fresh one and not vacant
pub IsOrder-give_back : (o : Order) (id : ℕ) → IsOrder o → id < o.fresh → is_vacant o id ≡ false → IsOrder (give_back o id)
IsOrder-give_back o id valid below apart = is_order_given o.vacant o.fresh id valid below apart

-- what is live by an order
abbrev live_by : List ℕ → ℕ → ℕ → Bool
live_by vacant fresh id = nat_lt id fresh && not (list_any (nat_eq id) vacant)

taken_is_live : (vacant : List ℕ) (fresh : ℕ) → IsOrder (record { vacant = vacant; fresh = fresh }) → let o = take_from vacant fresh in
    live_by o.vacant o.fresh (next_id (record { vacant = vacant; fresh = fresh })) ≡ true
taken_is_live [] fresh valid = rw (nat_lt_true fresh (fresh + 1) (omega arith))
taken_is_live (id ∷ ids) fresh valid = rw (nat_lt_true id fresh valid.below.0, distinct_first id ids valid.distinct)

others_taken : (vacant : List ℕ) (fresh q : ℕ) → q ≢ next_id (record { vacant = vacant; fresh = fresh }) → let o =
    take_from vacant fresh in live_by o.vacant o.fresh q ≡ live_by vacant fresh q
others_taken [] fresh q differs = rw (nat_lt_alike q (fresh + 1) q fresh (λ h. omega arith) (λ h. omega arith))
others_taken (id ∷ ids) fresh q differs = rw (nat_eq_other q id differs)

given_not_live : (vacant : List ℕ) (fresh id : ℕ) → let o = give_to vacant fresh id in live_by o.vacant o.fresh id ≡ false
given_not_live [] fresh id =
    elim (cases_eq (id + 1) fresh) [
      | inl same ↦ rw (same, nat_eq_same fresh, nat_lt_false id id (omega arith))
      | inr differs ↦ rw (nat_eq_other (id + 1) fresh differs, nat_eq_same id) (and-false _)
    ]
given_not_live (next ∷ ids) fresh id = rw (nat_eq_same id) (and-false _)

others_given : (vacant : List ℕ) (fresh id q : ℕ) → q ≢ id → let o = give_to vacant fresh id in
    live_by o.vacant o.fresh q ≡ live_by vacant fresh q
others_given [] fresh id q differs =
    elim (cases_eq (id + 1) fresh) [
      | inl same ↦ rw (same, nat_eq_same fresh, nat_lt_alike q id q fresh (λ h. omega arith) (λ h. omega arith))
      | inr apart ↦ rw (nat_eq_other (id + 1) fresh apart, nat_eq_other q id differs)
    ]
others_given (next ∷ ids) fresh id q differs = rw (nat_eq_other q id differs)

module _ {T : Type 0} where
  -- if the next id of a valid order is taken and a value is written under it, the order still belongs to the live ids
  pub BelongsTo-take_next : (o : Order) (live : FinMap nat_cmp T) (value : T) → IsOrder o → BelongsTo o live
      → BelongsTo (take_next o) (insert live (next_id o) value)
  BelongsTo-take_next o live value valid belongs q =
      elim (cases_eq q (next_id o)) [
        | inl same ↦ rw same (ap is_some (get-insert_same live (next_id o) value) ∙ sym (taken_is_live o.vacant o.fresh valid))
        | inr differs ↦ ap is_some (get-insert_other live (next_id o) value q differs) ∙ belongs q
            ∙ sym (others_taken o.vacant o.fresh q differs)
      ]

  -- if an id is given back and taken out of the map, the order still belongs to the live ids
  pub BelongsTo-give_back : (o : Order) (live : FinMap nat_cmp T) (id : ℕ) → BelongsTo o live
      → BelongsTo (give_back o id) (remove live id)
  BelongsTo-give_back o live id belongs q =
      elim (cases_eq q id) [
        | inl same ↦ rw same (ap is_some (get-remove_same live id) ∙ sym (given_not_live o.vacant o.fresh id))
        | inr differs ↦ ap is_some (get-remove_other live id q differs) ∙ belongs q ∙ sym (others_given o.vacant o.fresh id q differs)
      ]

-- the next id of a valid order is not vacant once it is taken
pub taken_not_vacant : (o : Order) → IsOrder o → is_vacant (take_next o) (next_id o) ≡ false
taken_not_vacant o valid = second_of _ _ (taken_is_live o.vacant o.fresh valid)

-- the next id of a valid order is below the first fresh one once it is taken
pub taken_below_fresh : (o : Order) → IsOrder o → next_id o < (take_next o).fresh
taken_below_fresh o valid = below_from_test _ _ (first_of _ _ (taken_is_live o.vacant o.fresh valid))

fresh-take_from : (vacant : List ℕ) (fresh : ℕ) → AllByRecursion (λ id. id < fresh) vacant
    → (take_from vacant fresh).fresh ≡ max fresh (next_id (record { vacant = vacant; fresh = fresh }) + 1)
fresh-take_from [] fresh below = omega arith
fresh-take_from (id ∷ ids) fresh below = omega (arith, below.0)

-- once the next id of a valid order is taken, the first fresh id is the greater of the one before and the number after the taken id
pub fresh-take_next : (o : Order) → IsOrder o → (take_next o).fresh ≡ max o.fresh (next_id o + 1)
fresh-take_next o valid = fresh-take_from o.vacant o.fresh valid.below

total-take_from : (vacant : List ℕ) (fresh count : ℕ) → count + length vacant ≡ fresh
    → count + 1 + length (take_from vacant fresh).vacant ≡ (take_from vacant fresh).fresh
total-take_from [] fresh count total = omega arith
total-take_from (id ∷ ids) fresh count total = omega arith

-- if count and the number of vacant ids add up to the first fresh id, so does count + 1 once the next id is taken
pub total-take_next : (o : Order) (count : ℕ) → count + length o.vacant ≡ o.fresh
    → count + 1 + length (take_next o).vacant ≡ (take_next o).fresh
total-take_next o count total = total-take_from o.vacant o.fresh count total

total-give_to : (vacant : List ℕ) (fresh count id : ℕ) → 0 < count → count + length vacant ≡ fresh
    → count - 1 + length (give_to vacant fresh id).vacant ≡ (give_to vacant fresh id).fresh
total-give_to [] fresh count id some total =
    elim (cases_eq (id + 1) fresh) [
      | inl same ↦ rw (same, nat_eq_same fresh) (omega arith)
      | inr differs ↦ rw (nat_eq_other (id + 1) fresh differs) (omega arith)
    ]
total-give_to (next ∷ ids) fresh count id some total = omega arith

-- if count and the number of vacant ids add up to the first fresh id, so does count - 1 once an id is given back
pub total-give_back : (o : Order) (count id : ℕ) → 0 < count → count + length o.vacant ≡ o.fresh
    → count - 1 + length (give_back o id).vacant ≡ (give_back o id).fresh
total-give_back o count id some total = total-give_to o.vacant o.fresh count id some total

fresh-give_to : (vacant : List ℕ) (fresh count id : ℕ) → count + length vacant ≡ fresh
    → (give_to vacant fresh id).fresh ≡ cond (nat_eq count fresh && nat_eq (id + 1) fresh) id fresh
fresh-give_to [] fresh count id total =
    let full : count ≡ fresh = omega arith in
    elim (cases_eq (id + 1) fresh) [
      | inl same ↦ rw (full, same, nat_eq_same fresh)
      | inr differs ↦ rw (full, nat_eq_same fresh, nat_eq_other (id + 1) fresh differs)
    ]
fresh-give_to (next ∷ ids) fresh count id total = rw (nat_eq_other count fresh (λ same. omega arith))

-- the first fresh id falls only if no id below it is vacant, and then the live ones are as many as it
pub fresh-give_back : (o : Order) (count id : ℕ) → count + length o.vacant ≡ o.fresh
    → (give_back o id).fresh ≡ cond (nat_eq count o.fresh && nat_eq (id + 1) o.fresh) id o.fresh
fresh-give_back o count id total = fresh-give_to o.vacant o.fresh count id total

fresh-give_to_le : (vacant : List ℕ) (fresh id : ℕ) → id < fresh → (give_to vacant fresh id).fresh ≤ fresh
fresh-give_to_le [] fresh id below =
    elim (cases_eq (id + 1) fresh) [
      | inl same ↦ rw (same, nat_eq_same fresh) (omega arith)
      | inr differs ↦ rw (nat_eq_other (id + 1) fresh differs) (omega arith)
    ]
fresh-give_to_le (next ∷ ids) fresh id below = omega arith

-- the first fresh id does not rise when an id below it is given back
pub fresh-give_back_le : (o : Order) (id : ℕ) → id < o.fresh → (give_back o id).fresh ≤ o.fresh
fresh-give_back_le o id below = fresh-give_to_le o.vacant o.fresh id below

-- the order that starts at 0 is valid
pub IsOrder-from_zero : IsOrder from_zero
IsOrder-from_zero = record { distinct = distinct_none; below = tt; last_apart = λ same. omega arith; at_most = omega arith }

-- a number above the limit is no live id
pub not_live_beyond : {X : Type 0} (o : Order) (live : FinMap nat_cmp X) (id : ℕ) → IsOrder o → BelongsTo o live → max_capacity < id
    → contains_key live id ≡ false
not_live_beyond o live id ordered belongs beyond =
    let most = ordered.at_most in
    belongs id ∙ ap (λ below. below && not (is_vacant o id)) (nat_lt_false id o.fresh (omega arith))
