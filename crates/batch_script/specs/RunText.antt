-- The text that a run of a script writes.
use Rattle.std.specs.Prelude.{◌≡◌, ◌≤◌, ℕ, List, [], ◌∷◌, ◌++◌, length}
use Rattle.batch_core.specs.State.{State, empty_state}
use Rattle.batch_core.specs.Workspace.{Workspace}
use Rattle.batch_script.specs.Grammar.{Printing, batch_printing, IsScriptOfOver}
use Rattle.batch_script.specs.Machine.{ItemOf, Bodies, batches, Reply, ItemStepOver, RunOver}
use Rattle.batch_script.specs.Reply.{oom_line, reply_lines, text_of, text_of_lines}

-- the text is that of the replies of one run of the items from empty
abbrev pub IsTextOfRunOver : {B : Type 0} → Bodies B → List (ItemOf B) → List ℕ → Type 0
IsTextOfRunOver bodies items text =
    (replies : List Reply) × RunOver bodies empty_state items replies × (text ≡ text_of replies)

-- the input is a script, and the text is that of one run of its items from empty
abbrev pub IsRunTextOver : {B : Type 0} → Bodies B → Printing B → List ℕ → List ℕ → Type 0
IsRunTextOver {B} bodies printing input text =
    (items : List (ItemOf B)) × IsScriptOfOver printing input items × IsTextOfRunOver bodies items text

-- so it is for a script of batches
abbrev pub IsRunText : List ℕ → List ℕ → Type 0
IsRunText = IsRunTextOver batches batch_printing

-- the room is enough for the text of each run of the script, and for the line of out of memory
pub record HoldsReplies (room : ℕ) (input : List ℕ) : Type 0 where
  pub holds_runs : (text : List ℕ) → IsRunText input text → length text ≤ room
  pub holds_refusal : length (text_of_lines (oom_line ∷ [])) ≤ room

-- the state of the plain machine that a workspace stands for
abbrev pub state_of : Workspace ℕ → State ℕ
state_of workspace = record { contents = workspace.contents; room = workspace.room }

-- the item took the workspace from old to new, with a reply that the machine may give and whose text was written
pub record AnswersOver {B : Type 0} (bodies : Bodies B) (item : ItemOf B) (old new : Workspace ℕ) (before after : List ℕ)
    : Type 0 where
  pub reply : Reply
  pub step : ItemStepOver bodies (state_of old) item reply (state_of new)
  pub written : after ≡ before ++ text_of_lines (reply_lines reply)
