use Rattle.std.proofs.Common.{◌≡◌, ◌++◌, length}
use Rattle.std.specs.Vec.Iter.{into_iter_items, into_iter_len}
use Rattle.batch_core.specs.Course.{batch_course}
use Rattle.batch_core.proofs.RunFacts.{IsAlong}
use Rattle.batch_core.proofs.workspace.Workspace.run.Given as goal

abbrev pub invariant-loop-command : goal.invariant-loop-command
invariant-loop-command g l = record {
  along : IsAlong (batch_course l.fn.self.contents l.fn.commands.items) l.fn.self l.self
      (batch_course l.self.contents (into_iter_items l.command-iterator)) l.at;
  split : l.yielded ++ into_iter_items l.command-iterator ≡ l.fn.commands.items;
  left : into_iter_len l.command-iterator ≡ length (into_iter_items l.command-iterator);
  count : l.at ≡ length l.yielded;
}
