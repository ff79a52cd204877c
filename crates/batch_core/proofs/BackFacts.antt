-- Records undone, part after part, and those of one command.
use Rattle.std.proofs.Common.{◌≡◌, ℕ, zero, suc, ◌+◌, ◌-◌, ◌<◌, ◌≤◌, Bool, true, false, List, [], ◌∷◌, ◌++◌, map, reverse, length}
use Rattle.std.proofs.Common.{take, drop, Some}
use Rattle.std.proofs.Common.{None, refl, sym, ap, subst, ◌∙◌, arith, append_assoc, length-append, length-set, length-drop, is_some}
use Rattle.std.specs.Prelude.{slice_set, nat_lt, not}
use Rattle.std.proofs.lemmas.Bool.Decides.{nat_tests}
use Rattle.std.proofs.lemmas.List.{append-nil, map-append, reverse-append, take-append-drop, drop-append-le}
use Rattle.std.proofs.lemmas.List.{length-map, length-reverse, take-take}
use Rattle.std.specs.FinMap.{get, insert, remove, len}
use Rattle.std.specs.FinSet.{contains, insert as with_member, remove as without_member}
use Rattle.wic_slab.specs.Order.{next_id, take_next, give_back, BelongsTo}
use Rattle.wic_base.proofs.MapFacts.{remove-insert as take_put, insert-remove as put_taken, none_from_not_some, value_at_key}
use Rattle.wic_base.proofs.MapFacts.{get-insert_same, len-insert_new}
use Rattle.wic_base.proofs.MapFacts.{len-remove_key, len_positive_from_key}
use Rattle.wic_slab.proofs.OrderFacts.{next_id_not_live, give_back-take_next, next_id-give_back, take_next-give_back}
use Rattle.batch_core.specs.State.{Contents, IsSound}
use Rattle.batch_core.specs.Command.{unless, made_of, without_last, last_value, cause_of, effect_of, records_of}
use Rattle.batch_core.specs.Back.{Capacities, Grows, IsWithin, undo_record, undo_all, back, CanUndo, CanGoBack}
use Rattle.batch_core.specs.Laws.{UndoingGoesBack, GoingBackInTwo}
use Rattle.batch_core.specs.declared.command.Cause.{Cause}
use Rattle.batch_core.specs.declared.command.Command.{Command}
use Rattle.batch_core.specs.declared.command.Command.TheVariants.{Push, Pop, Set, Alloc, Free, Put, Insert, Remove, Truncate}
use Rattle.batch_core.specs.declared.record.Record.{Record}
use Rattle.batch_core.specs.declared.record.Record.TheVariants.{Pushed, Popped, Replaced, Allocated, Freed, Put as Overwritten}
use Rattle.batch_core.specs.declared.record.Record.TheVariants.{Inserted, Removed, Cut, Truncated}
use Rattle.wic_base.proofs.MapFacts.{insert_back}
use Rattle.wic_base.proofs.SetFacts.{remove-insert, insert_present, insert-remove, remove_absent}
use Rattle.batch_core.proofs.ListFacts.{without_last-push, last_value-push, pushed, set_back, found_below}

-- if the test gives no cause, it holds
pub admitted : (test : Bool) (cause : Cause) → unless test cause ≡ None → test ≡ true
admitted true cause none = refl
admitted false cause none = absurd (cc)

not_not : (test : Bool) → not (not test) ≡ test
not_not true = refl
not_not false = refl

module _ {X : Type 0} where
  -- undoing xs ++ ys is undoing ys, and then xs
  pub undo_all-append : (xs ys : List (Record X)) (c : Contents X) → undo_all (xs ++ ys) c ≡ undo_all xs (undo_all ys c)
  undo_all-append [] ys c = refl
  undo_all-append (x ∷ xs) ys c = ap (undo_record x) (undo_all-append xs ys c)

  -- of the values that are cut off the first is cut last
  cuts-more : (y : X) (ys : List X) → map {B = Record X} Cut (reverse (y ∷ ys)) ≡ map Cut (reverse ys) ++ Cut y ∷ []
  cuts-more y ys = ap (map Cut) (reverse-append (y ∷ []) ys) ∙ map-append Cut (reverse ys) (y ∷ [])

  -- values that were cut off come back in their order
  pub undo_cuts : (ys : List X) (c : Contents X) → undo_all (map Cut (reverse ys)) c ≡ record c { list = c.list ++ ys }
  undo_cuts [] c = ap (λ l. record c { list = l }) (sym (append-nil c.list))
  undo_cuts (y ∷ ys) c =
      ap (λ rs. undo_all rs c) (cuts-more y ys) ∙ undo_all-append (map Cut (reverse ys)) (Cut y ∷ []) c
      ∙ undo_cuts ys (record c { list = c.list ++ y ∷ [] })
      ∙ ap (λ l. record c { list = l }) (append_assoc c.list (y ∷ []) ys)

  -- a list that isn't empty has a last value
  pub ends_in : (l : List X) → nat_lt 0 (length l) ≡ true → (ys : List X) × (y : X) × (l ≡ ys ++ y ∷ [])
  ends_in [] some = absurd (cc)
  ends_in (x ∷ xs) some = pushed x xs

  undo_pop : (c : Contents X) (ys : List X) (y : X)
      → undo_all (made_of (last_value (ys ++ y ∷ [])) Popped) (record c { list = without_last (ys ++ y ∷ []) }) ≡ record c
      { list = ys ++ y ∷ [] }
  undo_pop c ys y =
      ap (λ o. undo_all (made_of o Popped) (record c { list = without_last (ys ++ y ∷ []) })) (last_value-push ys y)
      ∙ ap (λ l. record c { list = l ++ y ∷ [] }) (without_last-push ys y)

  undo_alloc : (c : Contents X) (value : X) → IsSound c
      → ◌≡◌ {A = Contents X}
      (record c {
        live = remove (insert c.live (next_id c.order) value) (next_id c.order);
        order = give_back (take_next c.order)
            (next_id c.order);
      }) c
  undo_alloc c value sound =
      let vacant = none_from_not_some (get c.live (next_id c.order)) (next_id_not_live c.order c.live sound.belongs) in
      let live = take_put c.live (next_id c.order) value vacant in
      let order = give_back-take_next c.order sound.ordered in
      (λ i. record c { live = live i; order = order i })

  undo_free : (c : Contents X) (id : ℕ) (old : X) → get c.live id ≡ Some old
      → undo_all (made_of (get c.live id) (Freed id)) (record c { live = remove c.live id; order = give_back c.order id }) ≡ c
  undo_free c id old found =
      let next = next_id-give_back c.order id in
      let live : insert (remove c.live id) (next_id (give_back c.order id)) old ≡ c.live =
      ap (λ q. insert (remove c.live id) q old) next ∙ put_taken c.live id old found in
      let order = take_next-give_back c.order id in
      ap (λ o. undo_all (made_of o (Freed id)) (record c { live = remove c.live id; order = give_back c.order id })) found
      ∙ (λ i. record c { live = live i; order = order i })

  undo_insert : (c : Contents X) (number : ℕ) (new : Bool) → contains c.set number ≡ not new
      → undo_record (Inserted number new) (record c { set = with_member c.set number }) ≡ c
  undo_insert c number true absent = ap (λ s. record c { set = s }) (remove-insert c.set number absent)
  undo_insert c number false present = ap (λ s. record c { set = s }) (insert_present c.set number present)

  undo_remove : (c : Contents X) (number : ℕ) (there : Bool) → contains c.set number ≡ there
      → undo_record (Removed number there) (record c { set = without_member c.set number }) ≡ c
  undo_remove c number true present = ap (λ s. record c { set = s }) (insert-remove c.set number present)
  undo_remove c number false absent = ap (λ s. record c { set = s }) (remove_absent c.set number absent)

  -- on sound contents, undoing the records of an admitted command gives the contents before it
  pub undoing_goes_back : UndoingGoesBack X
  undoing_goes_back c (Push value) sound none = ap (λ l. record c { list = l }) (without_last-push c.list value)
  undoing_goes_back c Pop sound none =
      let ends = ends_in c.list (admitted _ _ none) in
      subst (λ l. undo_all (made_of (last_value l) Popped) (record c { list = without_last l }) ≡ record c { list = l }) (sym ends.2)
      (undo_pop c ends.0 ends.1)
  undoing_goes_back c (Set at value) sound none =
      let below = admitted _ _ none in
      let found = found_below c.list at (grind (arith, nat_tests)) in
      ap (λ o. undo_all (made_of o (Replaced at)) (record c { list = slice_set c.list at value })) found.1
      ∙ ap (λ l. record c { list = l }) (set_back c.list at value found.0 found.1)
  undoing_goes_back c (Alloc value) sound none = undo_alloc c value sound
  undoing_goes_back c (Free id) sound none =
      let found = value_at_key c.live id (admitted _ _ none) in
      undo_free c id found.0 found.1
  undoing_goes_back c (Put id value) sound none =
      let found = value_at_key c.live id (admitted _ _ none) in
      ap (λ o. undo_all (made_of o (Overwritten id)) (record c { live = insert c.live id value })) found.1
      ∙ ap (λ m. record c { live = m }) (insert_back c.live id value found.0 found.1)
  undoing_goes_back c (Insert number) sound none =
      undo_insert c number (not (contains c.set number)) (sym (not_not (contains c.set number)))
  undoing_goes_back c (Remove number) sound none = undo_remove c number (contains c.set number) refl
  undoing_goes_back c (Truncate kept) sound none =
      undo_all-append (map Cut (reverse (drop kept c.list))) (Truncated (length c.list - kept) ∷ [])
      (record c { list = take kept c.list })
      ∙ undo_cuts (drop kept c.list) (record c { list = take kept c.list })
      ∙ ap (λ l. record c { list = l }) (take-append-drop kept c.list)

  -- xs ++ ys can be undone if ys can be, and xs can be once ys are undone
  pub can_append : (within : Capacities) (xs ys : List (Record X)) (c : Contents X) → CanGoBack within ys c
      → CanGoBack within xs (undo_all ys c) → CanGoBack within (xs ++ ys) c
  can_append within [] ys c later earlier = later
  can_append within (x ∷ xs) ys c later earlier =
      (can_append within xs ys c later earlier.0, subst (CanUndo within x) (sym (undo_all-append xs ys c)) earlier.1)

  -- the last record can be undone, and then the others
  pub can_last : (within : Capacities) (xs : List (Record X)) (r : Record X) (c : Contents X) → CanGoBack within (xs ++ r ∷ []) c
      → CanGoBack within xs (undo_record r c) × CanUndo within r c
  can_last within [] r c can = (tt, can.1)
  can_last within (x ∷ xs) r c can =
      let rest = can_last within xs r c can.0 in
      ((rest.0, subst (CanUndo within x) (undo_all-append xs (r ∷ []) c) can.1), rest.1)

  can_undo_grow : (w v : Capacities) → Grows w v → (r : Record X) (c : Contents X) → CanUndo w r c → CanUndo v r c
  can_undo_grow w v grows Pushed c can = tt
  can_undo_grow w v grows (Popped value) c can = omega arith
  can_undo_grow w v grows (Replaced at old) c can = can
  can_undo_grow w v grows (Allocated id) c can = can
  can_undo_grow w v grows (Freed id old) c can = omega arith
  can_undo_grow w v grows (Overwritten id old) c can = can
  can_undo_grow w v grows (Inserted number new) c can = tt
  can_undo_grow w v grows (Removed number true) c can = (omega arith, can.1)
  can_undo_grow w v grows (Removed number false) c can = tt
  can_undo_grow w v grows (Cut value) c can = omega arith
  can_undo_grow w v grows (Truncated removed) c can = tt

  -- if capacities grow, going back stays possible
  pub can_grow : (w v : Capacities) → Grows w v → (rs : List (Record X)) (c : Contents X) → CanGoBack w rs c → CanGoBack v rs c
  can_grow w v grows [] c can = tt
  can_grow w v grows (r ∷ rs) c can = (can_grow w v grows rs c can.0, can_undo_grow w v grows r (undo_all rs c) can.1)

  -- values that were cut off a list can be put back if the capacity of the list has room for them
  pub can_cuts : (within : Capacities) (ys : List X) (c : Contents X) → length c.list + length ys ≤ within.list
      → CanGoBack within (map Cut (reverse ys)) c
  can_cuts within [] c room = tt
  can_cuts within (y ∷ ys) c room =
      let more : length (c.list ++ y ∷ []) + length ys ≤ within.list = omega (arith, length-append c.list (y ∷ [])) in
      let first : length c.list < within.list = omega arith in
      subst (λ rs. CanGoBack within rs c) (sym (cuts-more y ys))
      (can_append within (map Cut (reverse ys)) (Cut y ∷ []) c (tt, first)
      (can_cuts within ys (record c { list = c.list ++ y ∷ [] }) more))

  can_pop : (within : Capacities) (c : Contents X) (ys : List X) (y : X) → length (ys ++ y ∷ []) ≤ within.list
      → CanGoBack within (made_of (last_value (ys ++ y ∷ [])) Popped) (record c { list = without_last (ys ++ y ∷ []) })
  can_pop within c ys y room =
      let less : length (without_last (ys ++ y ∷ [])) < within.list =
      omega (arith, ap length (without_last-push ys y), length-append ys (y ∷ [])) in
      subst (λ o. CanGoBack within (made_of o Popped) (record c { list = without_last (ys ++ y ∷ []) })) (sym (last_value-push ys y))
      (tt, less)

  can_remove : (w : Capacities) (c : Contents X) (number : ℕ) (there : Bool) → IsWithin w c → IsSound c → contains c.set number ≡ there
      → CanUndo w (Removed number there) (record c { set = without_member c.set number })
  can_remove w c number true room sound present = (room.set number present, sound.members number present)
  can_remove w c number false room sound absent = tt

  -- after an admitted command its records can be undone
  pub can_step : (within : Capacities) (c : Contents X) (command : Command X) → IsWithin within c → IsSound c → cause_of c command ≡ None
      → CanGoBack within (records_of c command) (effect_of c command)
  can_step w c (Push value) room sound none = (tt, tt)
  can_step w c Pop room sound none =
      let ends = ends_in c.list (admitted _ _ none) in
      subst (λ l. CanGoBack w (made_of (last_value l) Popped) (record c { list = without_last l })) (sym ends.2)
      (can_pop w c ends.0 ends.1 (omega (arith, ap length ends.2, room.list)))
  can_step w c (Set at value) room sound none =
      let below = admitted _ _ none in
      let less : at < length c.list = grind (arith, nat_tests) in
      let found = found_below c.list at less in
      let less_after : at < length (slice_set c.list at value) = omega (arith, length-set c.list at value) in
      subst (λ o. CanGoBack w (made_of o (Replaced at)) (record c { list = slice_set c.list at value })) (sym found.1) (tt, less_after)
  can_step w c (Alloc value) room sound none = (tt, ap is_some (get-insert_same c.live (next_id c.order) value))
  can_step w c (Free id) room sound none =
      let live = admitted _ _ none in
      let found = value_at_key c.live id live in
      let less : len (remove c.live id) < w.table =
      omega (arith, len-remove_key c.live id live, len_positive_from_key c.live id live, room.table) in
      subst (λ o. CanGoBack w (made_of o (Freed id)) (record c { live = remove c.live id; order = give_back c.order id })) (sym found.1)
      (tt, less)
  can_step w c (Put id value) room sound none =
      let found = value_at_key c.live id (admitted _ _ none) in
      subst (λ o. CanGoBack w (made_of o (Overwritten id)) (record c { live = insert c.live id value })) (sym found.1)
      (tt, ap is_some (get-insert_same c.live id value))
  can_step w c (Insert number) room sound none = (tt, tt)
  can_step w c (Remove number) room sound none = (tt, can_remove w c number (contains c.set number) room sound refl)
  can_step w c (Truncate kept) room sound none =
      let both : length (take kept c.list) + length (drop kept c.list) ≤ w.list =
      omega (arith, length-append (take kept c.list) (drop kept c.list), ap length (take-append-drop kept c.list), room.list) in
      can_append w (map Cut (reverse (drop kept c.list))) (Truncated (length c.list - kept) ∷ []) (record c { list = take kept c.list })
      (tt, tt) (can_cuts w (drop kept c.list) (record c { list = take kept c.list }) both)

  -- after an admitted command all records can be undone
  pub can_after : (w v : Capacities) (c : Contents X) (command : Command X) (rs : List (Record X)) → Grows w v → IsWithin w c → IsSound c
      → cause_of c command ≡ None → CanGoBack w rs c → CanGoBack v (rs ++ records_of c command) (effect_of c command)
  can_after w v c command rs grows room sound none can =
      let room_after : IsWithin v c = record {
        list = omega (arith, room.list, grows.list);
        set = λ number member. omega (arith, room.set number member, grows.set);
        table = omega (arith, room.table, grows.table);
      } in
      can_append v rs (records_of c command) (effect_of c command) (can_step v c command room_after sound none)
      (subst (CanGoBack v rs) (sym (undoing_goes_back c command sound none)) (can_grow w v grows rs c can))

  -- one record for each value that is cut off, and one more
  pub count_cuts : (c : Contents X) (kept : ℕ) → length (records_of c (Truncate kept)) ≡ length c.list - kept + 1
  count_cuts c kept =
      let cuts = map {B = Record X} Cut (reverse (drop kept c.list)) in
      length-append cuts (Truncated (length c.list - kept) ∷ [])
      ∙ ap (λ n. n + 1) (length-map {B = Record X} (reverse (drop kept c.list)) Cut
      ∙ (length-reverse (drop kept c.list) ∙ length-drop kept c.list))

  -- an allocation leaves one more live id
  pub alloc_adds : (c : Contents X) (value : X) → BelongsTo c.order c.live → len (effect_of c (Alloc value)).live ≡ len c.live + 1
  alloc_adds c value belongs = len-insert_new c.live (next_id c.order) value (next_id_not_live c.order c.live belongs)

  -- what an admitted command added is undone down to every earlier mark
  pub back_after : (c after : Contents X) (command : Command X) (rs all : List (Record X)) → IsSound c → cause_of c command ≡ None
      → after ≡ effect_of c command → all ≡ rs ++ records_of c command → (mark : ℕ) → mark ≤ length rs
      → back after all mark ≡ back c rs mark
  back_after c after command rs all sound none effect records mark early =
      let added = records_of c command in
      ap (λ l. undo_all (drop mark l) after) records
      ∙ ap (λ l. undo_all l after) (drop-append-le mark rs added early)
      ∙ undo_all-append (drop mark rs) added after
      ∙ ap (undo_all (drop mark rs)) (ap (undo_all added) effect ∙ undoing_goes_back c command sound none)

  in_two : (early late : ℕ) (rs : List (Record X)) (c : Contents X) → early ≤ late
      → undo_all (drop early (take late rs)) (undo_all (drop late rs) c) ≡ undo_all (drop early rs) c
  in_two zero zero [] c order = refl
  in_two zero (suc late) [] c order = refl
  in_two (suc early) zero [] c order = refl
  in_two (suc early) (suc late) [] c order = refl
  in_two zero zero (x ∷ rs) c order = refl
  in_two zero (suc late) (x ∷ rs) c order = ap (undo_record x) (in_two zero late rs c (omega arith))
  in_two (suc early) zero (x ∷ rs) c order = absurd (omega arith)
  in_two (suc early) (suc late) (x ∷ rs) c order = in_two early late rs c (omega arith)

  -- going back to a later mark and then to an earlier one is going back to the earlier one at once
  pub going_back_in_two : GoingBackInTwo X
  going_back_in_two c rs early late order = (in_two early late rs c order, take-take early late rs order)
