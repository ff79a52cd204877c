use Rattle.std.proofs.Common.{◌≡◌, ◌+◌, ◌≤◌, drop}
use Rattle.batch_nest.specs.Nest.{command_lines, begin_lines}
use Rattle.batch_nest.proofs.levels.counts_of.Given as goal

abbrev pub invariant-loop-line : goal.invariant-loop-line
invariant-loop-line g l = record {
  commands : l.commands + command_lines (drop l.line-index l.line-items) ≡ command_lines l.line-items;
  begins : l.begins + begin_lines (drop l.line-index l.line-items) ≡ begin_lines l.line-items;
  few_commands : l.commands ≤ l.line-index;
  few_begins : l.begins ≤ l.line-index;
}
