-- How taking the next id, giving one back and growth keep the vacant list.
use Rattle.std.proofs.Common.{min, cond, true≢false, ◌≡◌, ◌≢◌, ℕ, zero, suc, ◌+◌, ◌-◌, ◌<◌, ◌≤◌, max, true, false, not, List, [], ◌∷◌}
use Rattle.std.proofs.Common.{◌++◌, length, get_or, set, nat_eq, nat_lt, ◌&&◌, Some, is_some, slice_get, inl, inr, refl, sym, ap, subst}
use Rattle.std.proofs.Common.{◌∙◌, arith, nat_cmp, length-set}
use Rattle.std.proofs.lemmas.Bool.{cases_eq, or_parts}
use Rattle.std.proofs.lemmas.Bool.Decides.{nat_tests}
use Rattle.std.proofs.lemmas.List.{get_or-set_same, get_or-set_other, length_push}
use Rattle.std.proofs.lemmas.Option.{slice_get_within, slice_get-get_or, get_or_from_slice_get}
use Rattle.std.specs.List.{list_any, range_with_len}
use Rattle.std.specs.FinMap.{empty, get, insert, remove, contains_key, len, get-empty, len-empty}
use Rattle.wic_slab.specs.declared.slab.Entry.{Entry}
use Rattle.wic_slab.specs.declared.slab.Entry.TheVariants.{Vacant, Occupied}
use Rattle.wic_slab.specs.Order.{Order, max_capacity, from_zero, next_id, take_from, take_next, give_to, give_back, is_vacant, BelongsTo}
use Rattle.wic_slab.specs.Slab.{Slab, IsSlab, with_value}
use Rattle.wic_slab.specs.Entry.{vacant_places, link_of, live_of, chain, order_of, Links, IsSound}
use Rattle.wic_base.proofs.MapFacts.{len-insert_new, len-insert_again, len-remove_key, len_positive_from_key}
use Rattle.wic_base.proofs.MapFacts.{contains_key-insert_again, same_map_from_get}
use Rattle.wic_slab.proofs.OrderFacts.{nat_eq_same, nat_eq_other}
use Rattle.wic_slab.proofs.OrderFacts.{next_id_not_live, live_below, live_not_vacant}
use Rattle.wic_slab.proofs.OrderFacts.{IsOrder-take_next, IsOrder-give_back, BelongsTo-take_next, BelongsTo-give_back, taken_not_vacant}
use Rattle.wic_slab.proofs.OrderFacts.{taken_below_fresh, fresh-take_next, total-take_next, total-give_back, fresh-give_back}
use Rattle.wic_slab.proofs.OrderFacts.{fresh-give_back_le, IsOrder-from_zero}
use Rattle.wic_slab.proofs.EntryFacts.{get-live_of, live_of-occupied, live_of-vacant, live_of-push, occupied_at}

not_any_numbers : (k first count : ℕ) → k < first → list_any (nat_eq k) (range_with_len first count) ≡ false
not_any_numbers k first zero below = refl
not_any_numbers k first (suc count) below =
    rw (nat_eq_other k first (λ same. omega arith)) (not_any_numbers k (first + 1) count (omega arith))

not_any-append : (k : ℕ) (xs ys : List ℕ) → list_any (nat_eq k) xs ≡ false → list_any (nat_eq k) ys ≡ false
    → list_any (nat_eq k) (xs ++ ys) ≡ false
not_any-append k [] ys none rest = rest
not_any-append k (x ∷ xs) ys none rest =
    let parts = or_parts (nat_eq k x) _ none in rw parts.0 (not_any-append k xs ys parts.1 rest)

-- an id below the fresh ones that isn't vacant is none of the vacant places
not_any_place : (o : Order) (count k : ℕ) → is_vacant o k ≡ false → k < o.fresh → list_any (nat_eq k) (vacant_places o count) ≡ false
not_any_place o count k none below = not_any-append k o.vacant _ none (not_any_numbers k o.fresh (count - o.fresh) below)

places_taken : (vacant : List ℕ) (fresh count : ℕ) → next_id (record { vacant = vacant; fresh = fresh }) < count
    → vacant_places (record { vacant = vacant; fresh = fresh }) count ≡ next_id
    (record { vacant = vacant; fresh = fresh }) ∷ vacant_places (take_from vacant fresh) count
places_taken [] fresh count below =
    let more : count - fresh ≡ suc (count - (fresh + 1)) = omega arith in
    rw more
places_taken (id ∷ ids) fresh count below = refl

places_given : (vacant : List ℕ) (fresh count id : ℕ) → id < count
    → vacant_places (give_to vacant fresh id) count ≡ id ∷ vacant_places (record { vacant = vacant; fresh = fresh }) count
places_given [] fresh count id below =
    elim (cases_eq (id + 1) fresh) [
      | inl same ↦
          let more : count - id ≡ suc (count - fresh) = omega arith in
          rw (same, nat_eq_same fresh, more, same)
      | inr differs ↦ rw (nat_eq_other (id + 1) fresh differs)
    ]
places_given (next ∷ ids) fresh count id below = refl

no_places : (vacant : List ℕ) (fresh count : ℕ) → fresh ≤ count → vacant ++ range_with_len fresh (count - fresh) ≡ []
    → (vacant ≡ []) × (fresh ≡ count)
no_places [] fresh count within none = (refl, none_left (count - fresh) refl none)
  where
    none_left : (n : ℕ) → count - fresh ≡ n → range_with_len fresh n ≡ [] → fresh ≡ count
    none_left zero left none = omega arith
    none_left (suc n) left none = absurd (cc)
no_places (id ∷ ids) fresh count within none = absurd (cc)

none_below_zero : (q : ℕ) → (nat_lt q 0 && not (list_any (nat_eq q) [])) ≡ false
none_below_zero q = rw (nat_lt_zero q)
  where
    nat_lt_zero : (q : ℕ) → nat_lt q 0 ≡ false
    nat_lt_zero q = grind (arith, nat_tests)

from_zero-BelongsTo : (X : Type 0) → BelongsTo from_zero (live_of {T = X} [])
from_zero-BelongsTo X q = ap is_some (get-live_of {X = X} [] q) ∙ sym (none_below_zero q)

module _ {X : Type 0} where
  Links-set : (es : List (Entry X)) (k : ℕ) (e : Entry X) (from : ℕ) (places : List ℕ) → list_any (nat_eq k) places ≡ false
      → Links es from places → Links (set es k e) from places
  Links-set es k e from [] none links = links ∙ sym (length-set es k e)
  Links-set es k e from (place ∷ places) none links =
      let other : place ≢ k = λ same. apart same in
      let within = slice_get_within es place _ links.2 in
      let kept : slice_get (set es k e) place ≡ Some (Vacant links.1) =
      slice_get-get_or (set es k e) place e (omega (arith, length-set es k e))
      ∙ ap Some (get_or-set_other es k place e e other ∙ get_or_from_slice_get es place _ e links.2) in
      (links.0, links.1, kept, Links-set es k e links.1 places (or_parts (nat_eq k place) _ none).1 links.3)
    where
      apart : place ≡ k → ⊥
      apart same = true≢false (sym (rw same (nat_eq_same k)) ∙ (or_parts (nat_eq k place) _ none).0)

  -- the chain that is read from the entries is what they link
  chain-linked : (es : List (Entry X)) (from : ℕ) (places rest : List ℕ) → Links es from (places ++ rest)
      → chain es from (length places) ≡ places
  chain-linked es from [] rest links = refl
  chain-linked es from (place ∷ places) rest links =
      let read : link_of (get_or es place (Vacant 0)) ≡ links.1 = ap link_of (get_or_from_slice_get es place _ (Vacant 0) links.2) in
      rw (links.0, read) (ap (λ ids. place ∷ ids) (chain-linked es links.1 places rest links.3))

  -- the order that is read from the fields
  pub order_of-sound : (es : List (Entry X)) (count next : ℕ) (o : Order) → IsSound es count next o → order_of es next count o.fresh ≡ o
  order_of-sound es count next o sound =
      let many : o.fresh - count ≡ length o.vacant = omega (arith, sound.total) in
      let read = ap (chain es next) many ∙ chain-linked es next o.vacant _ sound.linked in
      ap (λ vacant. record { vacant = vacant; fresh = o.fresh }) read

  -- if entries are sound with the order o and fresh is its first fresh id, the order that is read from the fields is o
  pub same_order : (es : List (Entry X)) (count next fresh : ℕ) (o : Order) → IsSound es count next o → fresh ≡ o.fresh
      → order_of es next count fresh ≡ o
  same_order es count next fresh o sound same = rw same (order_of-sound es count next o sound)

  -- if entries are sound with the order o and fresh is its first fresh id, they are sound with the order that is read
  pub sound_again : (es : List (Entry X)) (count next fresh : ℕ) (o : Order) → IsSound es count next o → fresh ≡ o.fresh
      → IsSound es count next (order_of es next count fresh)
  sound_again es count next fresh o sound same = subst (IsSound es count next) (sym (same_order es count next fresh o sound same)) sound

  next_head : (es : List (Entry X)) (next : ℕ) (vacant : List ℕ) (fresh : ℕ) → fresh ≤ length es
      → Links es next (vacant_places (record { vacant = vacant; fresh = fresh }) (length es))
      → next ≡ next_id (record { vacant = vacant; fresh = fresh })
  next_head es next [] fresh within links = by_count (length es - fresh) refl links
    where
      by_count : (n : ℕ) → length es - fresh ≡ n → Links es next (range_with_len fresh n) → next ≡ fresh
      by_count zero left at_end = omega arith
      by_count (suc n) left linked = linked.0
  next_head es next (id ∷ ids) fresh within links = links.0

  -- the head of the vacant list is the order's next id
  pub next_is : (es : List (Entry X)) (count next : ℕ) (o : Order) → IsSound es count next o → next ≡ next_id o
  next_is es count next o sound = next_head es next o.vacant o.fresh sound.within sound.linked

  none_at_end : (es : List (Entry X)) (from : ℕ) (places : List ℕ) → Links es from places → from ≡ length es → places ≡ []
  none_at_end es from [] links at_end = refl
  none_at_end es from (place ∷ places) links at_end =
      let within = slice_get_within es place _ links.2 in
      let here = links.0 in
      absurd (omega arith)

  -- at the end of the entries none of them is vacant
  pub full_at_end : (es : List (Entry X)) (count next : ℕ) (o : Order) → IsSound es count next o → next ≡ length es
      → (o.vacant ≡ []) × (o.fresh ≡ length es)
  full_at_end es count next o sound at_end =
      no_places o.vacant o.fresh (length es) sound.within (none_at_end es next _ sound.linked at_end)

  -- if the vacant list of sound entries starts at their end, count is the number of entries
  pub count_at_end : (es : List (Entry X)) (count next : ℕ) (o : Order) → IsSound es count next o → next ≡ length es → count ≡ length es
  count_at_end es count next o sound at_end =
      let full = full_at_end es count next o sound at_end in
      let none = ap length full.0 in
      omega (arith, sound.total, full.1, none)

  within_by : (es : List (Entry X)) (from : ℕ) (places : List ℕ) → Links es from places → from ≢ length es → from < length es
  within_by es from [] links before = absurd (before links)
  within_by es from (place ∷ places) links before =
      let within = slice_get_within es place _ links.2 in
      let here = links.0 in
      omega arith

  -- before the end of the entries there is an entry under the next id
  pub next_within : (es : List (Entry X)) (count next : ℕ) (o : Order) → IsSound es count next o → next ≢ length es → next < length es
  next_within es count next o sound before = within_by es next _ sound.linked before

  -- and it is vacant, and the rest of the list is what the order has once the id is taken
  pub next_links : (es : List (Entry X)) (count next : ℕ) (o : Order) → IsSound es count next o → next ≢ length es
      → Links es next (next ∷ vacant_places (take_next o) (length es))
  next_links es count next o sound before =
      let here = next_is es count next o sound in
      let below : next_id o < length es = omega (arith, next_within es count next o sound before) in
      rw here (subst (Links es (next_id o)) (places_taken o.vacant o.fresh (length es) below)
      (subst (λ n. Links es n (vacant_places o (length es))) here sound.linked))

  -- the next entry is filled
  pub IsSound-fill : (es : List (Entry X)) (count next after : ℕ) (o : Order) (value : X) → IsSound es count next o → next ≢ length es
      → slice_get es next ≡ Some (Vacant after) → IsSound (set es next (Occupied value)) (count + 1) after (take_next o)
  IsSound-fill es count next after o value sound before found =
      let here = next_is es count next o sound in
      let links = next_links es count next o sound before in
      let listed = links.2 in
      let same : links.1 ≡ after = cc in
      let within = next_within es count next o sound before in
      let live : live_of (set es next (Occupied value)) ≡ insert (live_of es) (next_id o) value =
      live_of-occupied es next value within ∙ ap (λ id. insert (live_of es) id value) here in
      let none = next_id_not_live o (live_of es) sound.belongs in
      let off : list_any (nat_eq next) (vacant_places (take_next o) (length es)) ≡ false =
      rw here (not_any_place (take_next o) (length es) (next_id o) (taken_not_vacant o sound.ordered)
      (taken_below_fresh o sound.ordered)) in
      let rest : Links (set es next (Occupied value)) after (vacant_places (take_next o) (length es)) =
      Links-set es next (Occupied value) after _ off (subst (λ n. Links es n (vacant_places (take_next o) (length es))) same links.3) in
      let long = length-set es next (Occupied value) in
      let room : next_id o < max_capacity = omega (arith, sound.at_most) in
      let risen = fresh-take_next o sound.ordered in
      record {
        ordered = IsOrder-take_next o sound.ordered room;
        belongs = rw live (BelongsTo-take_next o (live_of es) value sound.ordered sound.belongs);
        linked = rw long rest;
        counted = rw live (ap (λ n. n + 1) sound.counted ∙ sym (len-insert_new (live_of es) (next_id o) value none));
        total = total-take_next o count sound.total;
        within = omega (arith, sound.within);
        at_most = omega (arith, sound.at_most);
      }

  -- an entry is put at the end, if none is vacant
  pub IsSound-push : (es : List (Entry X)) (count next : ℕ) (o : Order) (value : X) → IsSound es count next o → next ≡ length es
      → length es < max_capacity → IsSound (es ++ Occupied value ∷ []) (count + 1) (next + 1) (take_next o)
  IsSound-push es count next o value sound at_end room =
      let here = next_is es count next o sound in
      let full = full_at_end es count next o sound at_end in
      let live : live_of (es ++ Occupied value ∷ []) ≡ insert (live_of es) (next_id o) value =
      live_of-push es value ∙ ap (λ id. insert (live_of es) id value) (sym at_end ∙ here) in
      let none = next_id_not_live o (live_of es) sound.belongs in
      let long = length_push es (Occupied value) in
      let room_for_next : next_id o < max_capacity = omega arith in
      let taken : take_next o ≡ record { vacant = []; fresh = o.fresh + 1 } = ap (λ vacant. take_from vacant o.fresh) full.0 in
      let risen = ap (λ (x : Order). x.fresh) taken in
      let linked : Links (es ++ Occupied value ∷ []) (next + 1)
      (vacant_places (record { vacant = []; fresh = o.fresh + 1 }) (length (es ++ Occupied value ∷ []))) =
      let left : length (es ++ Occupied value ∷ []) - (o.fresh + 1) ≡ 0 = omega (arith, full.1) in
      rw left (omega arith) in
      record {
        ordered = IsOrder-take_next o sound.ordered room_for_next;
        belongs = rw live (BelongsTo-take_next o (live_of es) value sound.ordered sound.belongs);
        linked = rw taken linked;
        counted = rw live (ap (λ n. n + 1) sound.counted ∙ sym (len-insert_new (live_of es) (next_id o) value none));
        total = total-take_next o count sound.total;
        within = omega (arith, full.1);
        at_most = omega arith;
      }

  -- the entry of a live id is vacated
  pub IsSound-vacate : (es : List (Entry X)) (count next id : ℕ) (o : Order) (value : X) → IsSound es count next o
      → get (live_of es) id ≡ Some value → IsSound (set es id (Vacant next)) (count - 1) id (give_back o id)
  IsSound-vacate es count next id o value sound found =
      let within = slice_get_within es id _ (occupied_at es id value found) in
      let is_live : contains_key (live_of es) id ≡ true = ap is_some found in
      let below = live_below o (live_of es) id sound.belongs is_live in
      let apart = live_not_vacant o (live_of es) id sound.belongs is_live in
      let live : live_of (set es id (Vacant next)) ≡ remove (live_of es) id = live_of-vacant es id next within in
      let long = length-set es id (Vacant next) in
      let off = not_any_place o (length es) id apart below in
      let written : slice_get (set es id (Vacant next)) id ≡ Some (Vacant next) =
      slice_get-get_or _ id (Vacant next) (omega arith) ∙ ap Some (get_or-set_same es id (Vacant next) (Vacant next) within) in
      let linked : Links (set es id (Vacant next)) id (id ∷ vacant_places o (length es)) =
      (refl, next, written, Links-set es id (Vacant next) next _ off sound.linked) in
      let some : 0 < count = omega (arith, sound.counted, len_positive_from_key (live_of es) id is_live) in
      record {
        ordered = IsOrder-give_back o id sound.ordered below apart;
        belongs = rw live (BelongsTo-give_back o (live_of es) id sound.belongs);
        linked = rw (long, places_given o.vacant o.fresh (length es) id within) linked;
        counted = rw live (ap (λ n. n - 1) sound.counted ∙ sym (len-remove_key (live_of es) id is_live));
        total = total-give_back o count id some sound.total;
        within = omega (arith, sound.within, fresh-give_back_le o id below);
        at_most = omega (arith, sound.at_most);
      }

  -- the value of a live id is written anew
  pub IsSound-rewrite : (es : List (Entry X)) (count next id : ℕ) (o : Order) (old new : X) → IsSound es count next o
      → get (live_of es) id ≡ Some old → IsSound (set es id (Occupied new)) count next o
  IsSound-rewrite es count next id o old new sound found =
      let within = slice_get_within es id _ (occupied_at es id old found) in
      let is_live : contains_key (live_of es) id ≡ true = ap is_some found in
      let below = live_below o (live_of es) id sound.belongs is_live in
      let apart = live_not_vacant o (live_of es) id sound.belongs is_live in
      let live : live_of (set es id (Occupied new)) ≡ insert (live_of es) id new = live_of-occupied es id new within in
      let long = length-set es id (Occupied new) in
      record {
        ordered = sound.ordered;
        belongs = rw live (λ q. contains_key-insert_again (live_of es) id new q is_live ∙ sound.belongs q);
        linked = rw long (Links-set es id (Occupied new) next _ (not_any_place o (length es) id apart below) sound.linked);
        counted = rw live (sound.counted ∙ sym (len-insert_again (live_of es) id new is_live));
        total = sound.total;
        within = omega (arith, sound.within);
        at_most = omega (arith, sound.at_most);
      }

  -- what every method may say of the slab
  pub IsSlab-sound : (es : List (Entry X)) (count next : ℕ) (o : Order) (capacity : ℕ) → IsSound es count next o → length es ≤ capacity
      → IsSlab (record { live = live_of es; order = o; capacity = min capacity max_capacity })
  IsSlab-sound es count next o capacity sound fits =
      record {
        ordered = sound.ordered;
        belongs = sound.belongs;
        total = omega (arith, sound.counted, sound.total);
        fits = omega (arith, sound.counted, sound.total, sound.within, sound.at_most);
        at_most = omega arith;
      }

  -- if there are no entries, the map of live ids is empty
  pub live_of-empty : (es : List (Entry X)) → es ≡ [] → live_of es ≡ empty
  live_of-empty es none = ap live_of none ∙ same_map_from_get _ _ (λ q. get-live_of [] q ∙ sym (get-empty nat_cmp q))

  -- if there are no entries, they are sound with 0 live ids, the vacant list at 0 and the order that starts at 0
  pub IsSound-empty : (es : List (Entry X)) → es ≡ [] → IsSound es 0 0 from_zero
  IsSound-empty es none = rw none
      (record {
        ordered = IsOrder-from_zero;
        belongs = from_zero-BelongsTo X;
        linked = refl;
        counted =
            sym (ap len (live_of-empty [] refl) ∙ len-empty nat_cmp X);
        total = refl;
        within = omega arith;
        at_most = omega arith;
      })

  risen_fresh : (es : List (Entry X)) (count next fresh : ℕ) → IsSound es count next (order_of es next count fresh)
      → max fresh (next + 1) ≡ (take_next (order_of es next count fresh)).fresh
  risen_fresh es count next fresh sound =
      let o = order_of es next count fresh in
      ap (λ id. max fresh (id + 1)) (next_is es count next o sound) ∙ sym (fresh-take_next o sound.ordered)

  -- the fields as they are once the next entry is put at the end
  pub pushed : (es : List (Entry X)) (count next fresh : ℕ) (value : X) → IsSound es count next (order_of es next count fresh)
      → next ≡ length es → length es < max_capacity
      → IsSound (es ++ Occupied value ∷ []) (count + 1) (next + 1)
      (order_of (es ++ Occupied value ∷ []) (next + 1) (count + 1) (max fresh (next + 1)))
  pushed es count next fresh value sound at_end room =
      let o = order_of es next count fresh in
      sound_again _ _ _ _ _ (IsSound-push es count next o value sound at_end room) (risen_fresh es count next fresh sound)

  -- once the next entry is put at the end, the order that is read is the one before with its next id taken
  pub pushed_order : (es : List (Entry X)) (count next fresh : ℕ) (value : X) → IsSound es count next (order_of es next count fresh)
      → next ≡ length es → length es < max_capacity
      → order_of (es ++ Occupied value ∷ []) (next + 1) (count + 1) (max fresh (next + 1)) ≡ take_next (order_of es next count fresh)
  pushed_order es count next fresh value sound at_end room =
      same_order _ _ _ _ _ (IsSound-push es count next _ value sound at_end room) (risen_fresh es count next fresh sound)

  -- once the next entry is put at the end, the live ids are those before, with the value under the next id
  pub pushed_live : (es : List (Entry X)) (count next fresh : ℕ) (value : X) → IsSound es count next (order_of es next count fresh)
      → next ≡ length es → live_of (es ++ Occupied value ∷ []) ≡ insert (live_of es) (next_id (order_of es next count fresh)) value
  pushed_live es count next fresh value sound at_end =
      live_of-push es value ∙ ap (λ id. insert (live_of es) id value) (sym at_end ∙ next_is es count next _ sound)

  -- the fields as they are once the next entry is filled
  pub filled : (es : List (Entry X)) (count next fresh after : ℕ) (value : X) → IsSound es count next (order_of es next count fresh)
      → next ≢ length es → slice_get es next ≡ Some (Vacant after)
      → IsSound (set es next (Occupied value)) (count + 1) after
      (order_of (set es next (Occupied value)) after (count + 1) (max fresh (next + 1)))
  filled es count next fresh after value sound before found =
      sound_again _ _ _ _ _ (IsSound-fill es count next after _ value sound before found) (risen_fresh es count next fresh sound)

  -- once the next entry is filled, the order that is read is the one before with its next id taken
  pub filled_order : (es : List (Entry X)) (count next fresh after : ℕ) (value : X)
      → IsSound es count next (order_of es next count fresh) → next ≢ length es → slice_get es next ≡ Some (Vacant after)
      → order_of (set es next (Occupied value)) after (count + 1) (max fresh (next + 1)) ≡ take_next (order_of es next count fresh)
  filled_order es count next fresh after value sound before found =
      same_order _ _ _ _ _ (IsSound-fill es count next after _ value sound before found) (risen_fresh es count next fresh sound)

  -- once the next entry is filled, the live ids are those before, with the value under the next id
  pub filled_live : (es : List (Entry X)) (count next fresh : ℕ) (value : X) → IsSound es count next (order_of es next count fresh)
      → next ≢ length es → live_of (set es next (Occupied value)) ≡ insert (live_of es) (next_id (order_of es next count fresh)) value
  filled_live es count next fresh value sound before =
      live_of-occupied es next value (next_within es count next _ sound before)
      ∙ ap (λ id. insert (live_of es) id value) (next_is es count next _ sound)

  -- the fields as they are once the entry of a live id is vacated
  pub vacated : (es : List (Entry X)) (count next fresh id : ℕ) (value : X) → IsSound es count next (order_of es next count fresh)
      → get (live_of es) id ≡ Some value
      → IsSound (set es id (Vacant next)) (count - 1) id
      (order_of (set es id (Vacant next)) id (count - 1) (cond (nat_eq count fresh && nat_eq (id + 1) fresh) id fresh))
  vacated es count next fresh id value sound found =
      let o = order_of es next count fresh in
      sound_again _ _ _ _ _ (IsSound-vacate es count next id o value sound found) (sym (fresh-give_back o count id sound.total))

  -- once the entry of a live id is vacated, the order that is read is the one before with that id given back
  pub vacated_order : (es : List (Entry X)) (count next fresh id : ℕ) (value : X) → IsSound es count next (order_of es next count fresh)
      → get (live_of es) id ≡ Some value
      → order_of (set es id (Vacant next)) id (count - 1) (cond (nat_eq count fresh && nat_eq (id + 1) fresh) id fresh) ≡ give_back
      (order_of es next count fresh) id
  vacated_order es count next fresh id value sound found =
      let o = order_of es next count fresh in
      same_order _ _ _ _ _ (IsSound-vacate es count next id o value sound found) (sym (fresh-give_back o count id sound.total))

  -- the fields as they are once the value of a live id is written anew
  pub rewritten : (es : List (Entry X)) (count next fresh id : ℕ) (old new : X) → IsSound es count next (order_of es next count fresh)
      → get (live_of es) id ≡ Some old
      → IsSound (set es id (Occupied new)) count next (order_of (set es id (Occupied new)) next count fresh)
  rewritten es count next fresh id old new sound found =
      sound_again _ _ _ fresh _ (IsSound-rewrite es count next id _ old new sound found) refl

  -- what contracts see of the slab then
  pub rewritten_view : (es : List (Entry X)) (count next fresh id capacity : ℕ) (old new : X)
      → IsSound es count next (order_of es next count fresh) → get (live_of es) id ≡ Some old
      → ◌≡◌ {A = Slab X} (record {
        live = live_of (set es id (Occupied new));
        order =
            order_of (set es id (Occupied new)) next count fresh;
        capacity = capacity;
      })
      (with_value (record { live = live_of es; order = order_of es next count fresh; capacity = capacity }) id new)
  rewritten_view es count next fresh id capacity old new sound found =
      let within = slice_get_within es id _ (occupied_at es id old found) in
      let live = live_of-occupied es id new within in
      let order = same_order _ _ _ fresh _ (IsSound-rewrite es count next id _ old new sound found) refl in
      λ i. record { live = live i; order = order i; capacity = capacity }
