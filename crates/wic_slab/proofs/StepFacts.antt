-- What an allocation and a giving back make of a slab, from the three things that they change.
use Rattle.std.specs.FinMap.{insert, remove}
use Rattle.std.proofs.Common.{◌≡◌, ℕ, ap, ◌∙◌}
use Rattle.wic_slab.specs.Order.{next_id, take_next, give_back, IsOrder, BelongsTo}
use Rattle.wic_slab.specs.Slab.{Slab, IsLive, IsSlab, Holds, GivesBack}
use Rattle.wic_base.proofs.MapFacts.{get-insert_same, key_once_inserted, one_more_inserted, one_less_removed}
use Rattle.wic_slab.proofs.OrderFacts.{next_id_not_live, next_id-give_back}

module _ {T : Type 0} (old new : Slab T) where
  -- a slab whose order went on and whose next id is live holds the value
  pub Holds-made : (value : T) (id : ℕ) → IsOrder old.order → BelongsTo old.order old.live → id ≡ next_id old.order
      → new.order ≡ take_next old.order → new.live ≡ insert old.live (next_id old.order) value → IsSlab new → Holds old new value id
  Holds-made value id ordered belongs is order live slab = record {
    id_is = is;
    order = order;
    was_vacant = rw is (next_id_not_live _ _ belongs);
    live = live;
    now_live = key_once_inserted _ _ _ id value live is;
    found = rw (live, is) (get-insert_same old.live (next_id old.order) value);
    one_more = one_more_inserted _ _ _ value live (next_id_not_live _ _ belongs);
    was_ordered = ordered;
    belonged = belongs;
    is_slab = slab;
  }

  -- a slab whose order has a live id at its front again, under which nothing is held, gave it back
  pub GivesBack-made : (id : ℕ) → IsOrder old.order → BelongsTo old.order old.live → IsLive old id
      → new.order ≡ give_back old.order id → new.live ≡ remove old.live id → new.capacity ≡ old.capacity → IsSlab new
      → GivesBack old new id
  GivesBack-made id ordered belongs was_live order live capacity slab = record {
    order = order;
    comes_next = ap next_id order ∙ next_id-give_back old.order id;
    live = live;
    one_less = one_less_removed _ _ id live was_live;
    capacity_stays = capacity;
    was_ordered = ordered;
    belonged = belongs;
    is_slab = slab;
  }
