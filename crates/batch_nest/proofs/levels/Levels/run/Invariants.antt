use Rattle.std.proofs.Common.{◌≡◌, ◌+◌, ◌≤◌, length}
use Rattle.std.specs.Vec.Iter.{into_iter_items, into_iter_len}
use Rattle.batch_core.specs.Back.{Grows}
use Rattle.batch_nest.specs.Nest.{Body, nest_lines, command_lines, begin_lines}
use Rattle.batch_nest.proofs.NestFacts.{IsInside}
use Rattle.batch_nest.proofs.levels.Levels.run.Given as goal

abbrev pub invariant-loop-line : goal.invariant-loop-line
invariant-loop-line g l = record {
  inside : (whole : Body g.row.T.Denot) → l.fn.lines.items ≡ nest_lines whole
      → IsInside l.fn.self.workspace l.self.workspace l.self.marks.items l.at (into_iter_items l.line-iterator) whole;
  left : into_iter_len l.line-iterator ≡ length (into_iter_items l.line-iterator);
  count : l.at ≤ length l.yielded;
  numbered : l.at + command_lines (into_iter_items l.line-iterator) ≡ command_lines l.fn.lines.items;
  marks : length l.self.marks.items + begin_lines (into_iter_items l.line-iterator) ≤ l.self.marks.capacity;
  mark_capacity : l.self.marks.capacity ≡ l.fn.self.marks.capacity;
  room : l.self.workspace.room ≡ l.fn.self.workspace.room;
  grows : Grows l.fn.self.workspace.capacities l.self.workspace.capacities;
}
