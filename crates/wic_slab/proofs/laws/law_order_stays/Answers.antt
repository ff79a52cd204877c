use Rattle.wic_slab.proofs.OrderFacts.{IsOrder-take_next, IsOrder-give_back, BelongsTo-take_next, BelongsTo-give_back, live_below}
use Rattle.wic_slab.proofs.OrderFacts.{live_not_vacant}
use Rattle.wic_slab.proofs.laws.law_order_stays.Goals as goal

pub returns : goal.returns
returns g c order live valid belongs = (
  λ value room. (IsOrder-take_next order valid room, BelongsTo-take_next order live value valid belongs),
  λ id is_live. (
    IsOrder-give_back order id valid (live_below order live id belongs is_live) (live_not_vacant order live id belongs is_live),
    BelongsTo-give_back order live id belongs,
  ),
)
