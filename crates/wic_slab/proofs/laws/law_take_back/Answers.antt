use Rattle.std.specs.FinMap.{get}
use Rattle.wic_slab.specs.Order.{next_id}
use Rattle.wic_base.proofs.MapFacts.{remove-insert, none_from_not_some}
use Rattle.wic_slab.proofs.OrderFacts.{next_id_not_live, give_back-take_next}
use Rattle.wic_slab.proofs.laws.law_take_back.Goals as goal

pub returns : goal.returns
returns g c order live value valid belongs =
    let none = none_from_not_some (get live (next_id order)) (next_id_not_live order live belongs) in
    (remove-insert live (next_id order) value none, give_back-take_next order valid)
