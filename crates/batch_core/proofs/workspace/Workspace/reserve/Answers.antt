use Rattle.std.proofs.Common.{arith}
use Rattle.batch_core.proofs.ReadyFacts.{ready_kept, ready_reserved}
use Rattle.batch_core.proofs.workspace.Workspace.reserve.Goals.{in-Ok, in-Err}
use Rattle.batch_core.proofs.workspace.Workspace.reserve.Goals as goal

pub invariant_of-self : goal.invariant_of-self
invariant_of-self g c =
    let old = c.self.inside.store in
    let new = c.reserve.new.self in
    let e = c.reserve.ensures in
    elim c.match-reserve.branch [
      | in-Ok w ↦ let done = w.in-Ok.ensures in
          ready_reserved old new e.contents e.records (omega (arith, done.room, done.list)) (omega (arith, done.room, done.set))
          (omega (arith, done.room, done.table)) (omega (arith, done.room, done.record_room)) e.grows c.self.invariant
      | in-Err w ↦ ready_kept old new e.contents e.records w.in-Err.ensures.refusal_leaves_room e.grows c.self.invariant
    ]
