use Rattle.std.proofs.Common.{ap, ◌∙◌}
use Rattle.std.specs.FinMap.{insert, remove}
use Rattle.wic_base.proofs.MapFacts.{insert-remove}
use Rattle.wic_slab.proofs.OrderFacts.{next_id-give_back, take_next-give_back}
use Rattle.wic_slab.proofs.laws.law_give_back.Goals as goal

pub returns : goal.returns
returns g c order live id value found = (
  next_id-give_back order id,
  ap (λ q. insert (remove live id) q value) (next_id-give_back order id) ∙ insert-remove live id value found,
  take_next-give_back order id,
)
