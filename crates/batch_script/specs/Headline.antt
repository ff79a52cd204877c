-- What the whole program promises: for every script the text of one run, or out of memory.
use Rattle.std.specs.Prelude.{◌≡◌, ℕ, ◌≤◌, List, [], ◌∷◌, ◌++◌, length, Option, Some}
use Rattle.wic_vec.specs.TryString.{TryString}
use Rattle.batch_core.specs.State.{empty_state}
use Rattle.batch_script.specs.Device.{Use, HasFaults}
use Rattle.batch_script.specs.Grammar.{Printing, batch_printing, IsScriptOfOver}
use Rattle.batch_script.specs.Machine.{Bodies, ItemOf, PlainItem, Reply, RunOver, batches}
use Rattle.batch_script.specs.Reply.{oom_line, text_of, text_of_lines}
use Rattle.batch_script.specs.declared.program.Status.{Status}
use Rattle.batch_script.specs.declared.program.Status.TheVariants.{Done, Oom}
use Rattle.batch_script.specs.declared.program.TheConstants.{INPUT_LIMIT}

-- What the headline supposes of a call, of the input and of the items.
pub record PremisesOver {B : Type 0} (printing : Printing B) (words : List TryString) (source sink : Use) (input held : List ℕ)
    (items : List (ItemOf B)) : Type 0 where
  -- no words are given
  pub no_words : words ≡ []
  -- the source tells its bytes, which are the input
  pub source_tells : source.told ≡ Some input
  -- and holds no more than the limit
  pub within_limit : length input ≤ INPUT_LIMIT
  -- the sink tells what it holds
  pub sink_tells : sink.told ≡ Some held
  -- the source's count of faults didn't rise in the call, nor does it stand at its last value
  pub source_quiet : ¬ HasFaults source
  -- nor the sink's
  pub sink_quiet : ¬ HasFaults sink
  -- the input is the script of the items, which are valid
  pub script : IsScriptOfOver printing input items

-- so it does for a script of batches
abbrev pub Premises : List TryString → Use → Use → List ℕ → List ℕ → List PlainItem → Type 0
Premises = PremisesOver batch_printing

-- The first outcome: the text of one run, whole.
pub record RunsWholeOver {B : Type 0} (bodies : Bodies B) (status : Status) (written : Option (List ℕ)) (held : List ℕ)
    (items : List (ItemOf B)) : Type 0 where
  -- the status is 0
  pub done : status ≡ Done
  -- there are replies
  pub replies : List Reply
  -- that the machine may give to the items, one after the other from empty
  pub run : RunOver bodies empty_state items replies
  -- the sink holds what it held, followed by their text and nothing else
  pub gained : written ≡ Some (held ++ text_of replies)

-- so it is for the items of a script of batches
abbrev pub RunsWhole : Status → Option (List ℕ) → List ℕ → List PlainItem → Type 0
RunsWhole = RunsWholeOver batches

-- The second outcome: out of memory.
pub record WantsMemory (status : Status) (written : Option (List ℕ)) (held : List ℕ) : Type 0 where
  -- the status is 2
  pub wanted : status ≡ Oom
  -- the sink holds what it held, followed by the line that says so
  pub gained : written ≡ Some (held ++ text_of_lines (oom_line ∷ []))
