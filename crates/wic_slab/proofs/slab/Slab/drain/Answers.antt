use Rattle.std.specs.FinMap.{entries_sorted}
use Rattle.wic_slab.proofs.DrainFacts.{drain_in_order, drain_keeps_along}
use Rattle.wic_base.proofs.MapFacts.{equals_true_from_T}
use Rattle.wic_slab.proofs.slab.Slab.drain.Goals as goal

pub returns-clause-rising : goal.returns-clause-rising
returns-clause-rising g c = equals_true_from_T _ (entries_sorted c.args.self.now.live)

pub returns-clause-in_order : goal.returns-clause-in_order
returns-clause-in_order g c = drain_in_order

pub returns-clause-stays : goal.returns-clause-stays
returns-clause-stays g c = drain_keeps_along _
