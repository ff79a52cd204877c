-- What words ask for, what the program has to write, and how reading ends.
use Rattle.std.specs.Prelude.{◌≡◌, ◌≢◌, ℕ, ◌<◌, ◌≤◌, List, [], length, Some}
use Rattle.wic_vec.specs.TryString.{TryString}
use Rattle.batch_script.specs.Device.{Use, HasFaults, Keeps, OfTold}
use Rattle.batch_script.specs.Reply.{oom_line, read_fault_line, too_long_line}
use Rattle.batch_script.specs.Status.{Meaning, line_text}
use Rattle.batch_script.specs.declared.program.Answer.{Answer}
use Rattle.batch_script.specs.declared.program.Answer.TheVariants as answer
use Rattle.batch_script.specs.declared.program.Asked.{Asked}
use Rattle.batch_script.specs.declared.program.Asked.TheVariants as asked
use Rattle.batch_script.specs.declared.program.ReadEnd.{ReadEnd}
use Rattle.batch_script.specs.declared.program.ReadEnd.TheVariants as end
use Rattle.batch_script.specs.declared.program.Status.{Status}
use Rattle.batch_script.specs.declared.program.Status.TheVariants as status
use Rattle.batch_script.specs.declared.program.TheConstants.{INPUT_LIMIT}

-- the words ask for this
abbrev pub IsAsked : Meaning → List TryString → Asked → Type 0
IsAsked meaning words asked.Script = words ≡ []
IsAsked meaning words (asked.Text text) = meaning.asks_for_text words text.bytes
IsAsked meaning words asked.OutOfMemory = (words ≢ []) × (¬ meaning.asks_for_usage words)
IsAsked meaning words asked.Usage = meaning.asks_for_usage words

-- the status of an answer
abbrev pub status_of : Answer → Status
status_of (answer.Done text) = status.Done
status_of (answer.Syntax text) = status.Syntax
status_of answer.Oom = status.Oom
status_of answer.ReadFault = status.ReadFault
status_of answer.TooLong = status.TooLong
status_of answer.Usage = status.Usage

-- its text, with this line for the usage
abbrev pub text_of_answer : List ℕ → Answer → List ℕ
text_of_answer usage (answer.Done text) = text.bytes
text_of_answer usage (answer.Syntax text) = text.bytes
text_of_answer usage answer.Oom = line_text oom_line
text_of_answer usage answer.ReadFault = line_text read_fault_line
text_of_answer usage answer.TooLong = line_text too_long_line
text_of_answer usage answer.Usage = line_text usage

-- all bytes that were left were read, within the limit, and no call failed
pub record ReadsAll (source : Use) (bytes : List ℕ) : Type 0 where
  pub all : OfTold source (λ input. bytes ≡ input)
  pub ended : OfTold source (λ input. source.told_after ≡ Some [])
  pub within : length bytes ≤ INPUT_LIMIT
  pub kept : Keeps source

-- why reading ended before the input did
abbrev pub IsReadEnd : Use → ReadEnd → Type 0
IsReadEnd source end.Fault = HasFaults source
IsReadEnd source end.TooLong = Keeps source × OfTold source (λ input. INPUT_LIMIT < length input)
IsReadEnd source end.Oom = Keeps source
