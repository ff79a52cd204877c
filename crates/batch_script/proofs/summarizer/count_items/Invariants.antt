use Rattle.std.proofs.Common.{◌≡◌, ◌+◌, ◌^◌, ◌<◌, ◌≤◌, Bool, length}
use Rattle.std.specs.List.{count_by}
use Rattle.std.specs.Vec.Iter.{into_iter_items, into_iter_len}
use Rattle.batch_core.specs.State.{empty_state}
use Rattle.batch_script.specs.Machine.{Reply, plain_replies, plain_end}
use Rattle.batch_script.specs.Reading.{plain_items}
use Rattle.batch_script.specs.RunText.{state_of}
use Rattle.batch_script.specs.Summary.{is_committed, is_aborted, is_refused}
use Rattle.batch_script.proofs.summarizer.count_items.Given as goal

-- the plain run of all items has come to the workspace, and the replies so far are counted
abbrev pub invariant-loop-item : goal.invariant-loop-item
invariant-loop-item l =
    let all = plain_items l.fn.items.items in
    let left = plain_items (into_iter_items l.item-iterator) in
    let state = state_of l.workspace in
    let all_of = λ (counts : Reply → Bool). count_by counts (plain_replies empty_state all) in
    let left_of = λ (counts : Reply → Bool). count_by counts (plain_replies state left) in record {
      ends : plain_end state left ≡ plain_end empty_state all;
      committed : l.counts.committed + left_of is_committed ≡ all_of is_committed;
      aborted : l.counts.aborted + left_of is_aborted ≡ all_of is_aborted;
      refused : l.counts.refused + left_of is_refused ≡ all_of is_refused;
      left_over : into_iter_len l.item-iterator ≡ length left;
      small : length all < 2 ^ 64;
      few : l.counts.committed + l.counts.aborted + l.counts.refused + into_iter_len l.item-iterator ≤ length all;
    }
