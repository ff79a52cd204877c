use Rattle.std.proofs.Common.{sym, ap, length, ◌∙◌}
use Rattle.std.specs.FinMap.{len-entries}
use Rattle.wic_base.proofs.MapFacts.{equals_true_from_T}
use Rattle.wic_slab.proofs.EntryFacts.{entries-live_of, sorted_pairs}
use Rattle.wic_slab.proofs.slab.Slab.iter.Goals as goal

pub returns-clause-pairs : goal.returns-clause-pairs
returns-clause-pairs g c = rw (c.as_slice.ensures.items, ← c.self.view_is) (sym (entries-live_of c.self.inside.entries.items))

pub returns-clause-rising : goal.returns-clause-rising
returns-clause-rising g c = equals_true_from_T _ (sorted_pairs 0 c.as_slice.result.now)

pub returns-clause-count : goal.returns-clause-count
returns-clause-count g c = ap length (returns-clause-pairs g c) ∙ sym (len-entries _)
