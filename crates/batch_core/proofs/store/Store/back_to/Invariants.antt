use Rattle.std.proofs.Common.{◌≡◌, ◌≤◌, List, ◌++◌, length}
use Rattle.batch_core.specs.Back.{CanGoBack, undo_all}
use Rattle.batch_core.specs.declared.record.Record.{Record}
use Rattle.batch_core.proofs.store.Store.back_to.Given as goal

abbrev pub invariant-loop-self : goal.invariant-loop-self
invariant-loop-self g l =
    ((undone : List (Record g.row.T.Denot)) × (l.initial.self.records ≡ l.self.records ++ undone)
    × (l.self.contents ≡ undo_all undone l.initial.self.contents))
    × CanGoBack l.self.capacities l.self.records l.self.contents
    × (l.mark ≤ length l.self.records)
    × (l.self.room ≡ l.initial.self.room)
    × (l.self.capacities ≡ l.initial.self.capacities)

abbrev pub decreases-loop-self : goal.decreases-loop-self
decreases-loop-self g l = length l.self.records
