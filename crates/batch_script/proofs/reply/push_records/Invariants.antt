use Rattle.std.proofs.Common.{◌≡◌, ◌++◌, drop}
use Rattle.std.specs.List.{flat_map}
use Rattle.batch_script.specs.Reply.{record_lines, text_of_lines}
use Rattle.batch_script.proofs.reply.push_records.Given as goal

-- what was written, and what is still to be written, is all of it
abbrev pub invariant-loop-entry : goal.invariant-loop-entry
invariant-loop-entry l =
    l.text.bytes ++ text_of_lines (flat_map record_lines (drop l.entry-index l.records))
    ≡ l.initial.text.bytes ++ text_of_lines (flat_map record_lines l.records)
