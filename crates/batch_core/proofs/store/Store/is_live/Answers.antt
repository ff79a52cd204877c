use Rattle.std.proofs.Common.{◌∙◌, sym, ap, arith}
use Rattle.std.specs.FinMap.{contains_key}
use Rattle.wic_slab.proofs.OrderFacts.{not_live_beyond}
use Rattle.batch_core.proofs.store.Store.is_live.Goals as goal

pub returns-in-None : goal.returns-in-None
returns-in-None g c =
    sym (ap (λ s. contains_key s.contents.live c.args.id) (sym c.self.view_is)
    ∙ not_live_beyond c.self.inside.table.order c.self.inside.table.live c.args.id c.len.ensures.sound.ordered
    c.len.ensures.sound.belongs (grind (arith, c.id_of.ensures, c.in-None.is)))
