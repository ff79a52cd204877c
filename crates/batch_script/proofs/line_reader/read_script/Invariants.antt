use Rattle.std.proofs.Common.{◌≡◌, ◌+◌, ◌≤◌, length, take, drop}
use Rattle.batch_script.specs.Grammar.{lines_of}
use Rattle.batch_script.proofs.line_reader.read_script.Given as goal

abbrev pub invariant-loop-rest : goal.invariant-loop-rest
invariant-loop-rest g l = record {
  read : g.R.LineReader.has_read l.reader (take l.line_number (lines_of l.input));
  left : drop l.line_number (lines_of l.input) ≡ lines_of l.rest;
  bytes : l.line_number + length l.rest ≤ length l.input;
  counted : l.line_number ≤ length (lines_of l.input);
}

abbrev pub decreases-loop-rest : goal.decreases-loop-rest
decreases-loop-rest g l = length l.rest
