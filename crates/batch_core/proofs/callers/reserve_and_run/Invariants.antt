use Rattle.std.proofs.Common.{◌≡◌, ◌≤◌, length}
use Rattle.std.specs.Vec.Iter.{into_iter_items, into_iter_len}
use Rattle.batch_core.specs.Many.{contents_after_all, AllFit}
use Rattle.batch_core.proofs.callers.reserve_and_run.Given as goal

abbrev pub invariant-loop-batch : goal.invariant-loop-batch
invariant-loop-batch g l = record {
  room : l.n ≤ l.workspace.room;
  fit : AllFit l.n l.workspace.contents (into_iter_items l.batch-iterator);
  after : contents_after_all l.workspace.contents (into_iter_items l.batch-iterator)
      ≡ contents_after_all l.initial.workspace.contents l.fn.batches.items;
  left : into_iter_len l.batch-iterator ≡ length (into_iter_items l.batch-iterator);
}
