-- What the plain run of a script comes to, in seven lines.
use Rattle.std.specs.Prelude.{◌≡◌, ℕ, ◌+◌, Bool, true, false, List, [], ◌∷◌, ◌++◌, length, codes, cond}
use Rattle.std.specs.List.{count_by}
use Rattle.std.specs.Fmt.{decimal}
use Rattle.std.specs.FinMap.{len}
use Rattle.std.specs.FinSet.{len as count_members}
use Rattle.wic_slab.specs.Order.{next_id}
use Rattle.batch_core.specs.State.{empty_state}
use Rattle.batch_core.specs.Batch.{committed, aborted, refused}
use Rattle.batch_core.specs.Workspace.{Workspace}
use Rattle.batch_script.specs.declared.summarizer.Counts.{Counts}
use Rattle.batch_script.specs.Grammar.{Line}
use Rattle.batch_script.specs.Machine.{PlainItem, Reply, answered, plain_step, plain_replies, plain_end}
use Rattle.batch_script.specs.Reply.{text_of_lines}
use Rattle.batch_script.specs.RunText.{state_of}

-- a batch was committed
abbrev pub is_committed : Reply → Bool
is_committed (answered (committed records)) = true
is_committed reply = false

-- a batch was aborted
abbrev pub is_aborted : Reply → Bool
is_aborted (answered aborted) = true
is_aborted reply = false

-- a batch was refused for a cause
abbrev pub is_refused : Reply → Bool
is_refused (answered (refused bad)) = true
is_refused reply = false

-- a line of a word and a number
abbrev pub number_line : List ℕ → ℕ → Line
number_line word number = word ++ decimal number

-- the seven lines of items: the batches that the plain run commits, aborts and refuses, and how much is held at its end
abbrev pub summary_lines : List PlainItem → List Line
summary_lines items =
    let replies = plain_replies empty_state items in
    let contents = (plain_end empty_state items).contents in
    number_line (codes "committed ") (count_by is_committed replies)
    ∷ number_line (codes "aborted ") (count_by is_aborted replies)
    ∷ number_line (codes "refused ") (count_by is_refused replies)
    ∷ number_line (codes "list ") (length contents.list)
    ∷ number_line (codes "set ") (count_members contents.set)
    ∷ number_line (codes "live ") (len contents.live)
    ∷ number_line (codes "next ") (next_id contents.order) ∷ []

-- their text
abbrev pub summary_text : List PlainItem → List ℕ
summary_text items = text_of_lines (summary_lines items)

-- the counts went up by one if the reply is such a one
pub record CountsReply (reply : Reply) (before after : Counts) : Type 0 where
  pub committed : after.committed ≡ before.committed + cond (is_committed reply) 1 0
  pub aborted : after.aborted ≡ before.aborted + cond (is_aborted reply) 1 0
  pub refused : after.refused ≡ before.refused + cond (is_refused reply) 1 0

-- the plain step of the item took the workspace from old to new, and its reply was counted
pub record CountsItem (item : PlainItem) (old new : Workspace ℕ) (before after : Counts) : Type 0 where
  pub state : state_of new ≡ (plain_step (state_of old) item).1
  pub counted : CountsReply (plain_step (state_of old) item).0 before after

-- the counts are those of the replies of the plain run
pub record AreCounts (items : List PlainItem) (counts : Counts) : Type 0 where
  pub committed : counts.committed ≡ count_by is_committed (plain_replies empty_state items)
  pub aborted : counts.aborted ≡ count_by is_aborted (plain_replies empty_state items)
  pub refused : counts.refused ≡ count_by is_refused (plain_replies empty_state items)
