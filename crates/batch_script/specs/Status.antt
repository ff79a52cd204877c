-- How the program ends: which status and which text words, input and the source's faults call for, and how the text is written.
use Rattle.std.specs.Prelude.{◌≡◌, ◌≢◌, ◌⊎◌, ℕ, ◌<◌, ◌≤◌, List, [], ◌∷◌, ◌++◌, length, codes, Some}
use Rattle.std.specs.Fmt.{decimal}
use Rattle.wic_vec.specs.TryString.{TryString}
use Rattle.batch_script.specs.Device.{Use, HasFaults, Keeps, OfTold}
use Rattle.batch_script.specs.Reply.{oom_line, read_fault_line, text_of_lines, too_long_line}
use Rattle.batch_script.specs.declared.program.Status.{Status}
use Rattle.batch_script.specs.declared.program.Status.TheVariants.{Done, Syntax, Oom, ReadFault, WriteFault, TooLong, Usage}
use Rattle.batch_script.specs.declared.program.TheConstants.{INPUT_LIMIT}

-- the status as a number
abbrev pub code_of : Status → ℕ
code_of Done = 0
code_of Syntax = 1
code_of Oom = 2
code_of ReadFault = 3
code_of WriteFault = 4
code_of TooLong = 5
code_of Usage = 6

-- What a program means: what an input is to it, and what words ask of it. No words ask for a script.
pub record Meaning : Type 1 where
  -- the input is a script
  pub is_script : List ℕ → Type 0
  -- an input that is none has its fault at this line
  pub is_fault_line : List ℕ → ℕ → Type 0
  -- the input is a script and the text replies to it
  pub is_reply : List ℕ → List ℕ → Type 0
  -- the words ask for this text, and for nothing to be read
  pub asks_for_text : List TryString → List ℕ → Type 0
  -- the words ask for the usage
  pub asks_for_usage : List TryString → Type 0
  -- the line that says what can be asked for
  pub usage : List ℕ

-- only scripts are replied to, and words ask for one thing at most
pub record IsMeaning (meaning : Meaning) : Type 0 where
  pub reply_is_script : (input text : List ℕ) → meaning.is_reply input text → meaning.is_script input
  pub some_for_text : (words : List TryString) (text : List ℕ) → words ≡ [] → ¬ meaning.asks_for_text words text
  pub some_for_usage : (words : List TryString) → words ≡ [] → ¬ meaning.asks_for_usage words
  pub text_or_usage : (words : List TryString) (text : List ℕ) → meaning.asks_for_text words text → ¬ meaning.asks_for_usage words

-- the text of one line
abbrev pub line_text : List ℕ → List ℕ
line_text line = text_of_lines (line ∷ [])

-- a script is asked for, it is within the limit and was read to its end, and the text replies to it
pub record RepliesTo (meaning : Meaning) (words : List TryString) (source : Use) (text : List ℕ) : Type 0 where
  pub no_words : words ≡ []
  pub ended : OfTold source (λ input. source.told_after ≡ Some [])
  pub within : OfTold source (λ input. length input ≤ INPUT_LIMIT)
  pub replies : OfTold source (λ input. meaning.is_reply input text)

-- a script is asked for, the input is within the limit and none, and the text names the line of its fault
pub record NamesFault (meaning : Meaning) (words : List TryString) (source : Use) (text : List ℕ) : Type 0 where
  pub no_words : words ≡ []
  pub within : OfTold source (λ input. length input ≤ INPUT_LIMIT)
  pub no_script : OfTold source (λ input. ¬ meaning.is_script input)
  pub line : ℕ
  pub at : OfTold source (λ input. meaning.is_fault_line input line)
  pub tells : text ≡ line_text (codes "error: syntax at line " ++ decimal line)

-- What words, input and the source's count of faults call for: the status, and the text that is to be written with it.
abbrev pub CallsFor : Meaning → List TryString → Use → Status → List ℕ → Type 0
CallsFor meaning words source Done text =
    Keeps source × (RepliesTo meaning words source text ⊎ meaning.asks_for_text words text)
CallsFor meaning words source Syntax text = Keeps source × NamesFault meaning words source text
CallsFor meaning words source Oom text =
    Keeps source × (¬ meaning.asks_for_usage words) × (text ≡ line_text oom_line)
CallsFor meaning words source ReadFault text =
    HasFaults source × (words ≡ []) × (text ≡ line_text read_fault_line)
CallsFor meaning words source WriteFault text = ⊥
CallsFor meaning words source TooLong text =
    Keeps source × (words ≡ []) × OfTold source (λ input. INPUT_LIMIT < length input)
    × (text ≡ line_text too_long_line)
CallsFor meaning words source Usage text = Keeps source × meaning.asks_for_usage words × (text ≡ line_text meaning.usage)

-- a text was written whole, by at most as many writes as it has bytes
pub record WritesWhole (text : List ℕ) (sink : Use) (reached : ℕ → Type 0) : Type 0 where
  pub kept : Keeps sink
  pub gained : OfTold sink (λ held. sink.told_after ≡ Some (held ++ text))
  pub writes : reached (length text)

-- a write failed, and a proper prefix of the text was written
pub record WritesFront (text : List ℕ) (sink : Use) (reached : ℕ → Type 0) : Type 0 where
  pub rose : HasFaults sink
  pub front : List ℕ
  pub rest : List ℕ
  pub parts : text ≡ front ++ rest
  pub more : rest ≢ []
  pub gained : OfTold sink (λ held. sink.told_after ≡ Some (held ++ front))
  pub writes : reached (length front)

-- the text was written and the result is the status that goes with it, or a write failed
abbrev pub Finishes : List ℕ → Status → Use → (ℕ → Type 0) → Status → Type 0
Finishes text status sink writes result =
    ((result ≡ status) × WritesWhole text sink writes) ⊎ ((result ≡ WriteFault) × WritesFront text sink writes)

-- How a call of a program came to its result: if several statuses are possible, this says which.
pub record Concludes (meaning : Meaning) (words : List TryString) (source sink : Use) (writes : ℕ → Type 0) (result : Status)
    : Type 0 where
  -- words, input and the source's count of faults call for a status and a text
  pub status : Status
  pub text : List ℕ
  pub called_for : CallsFor meaning words source status text
  -- the whole text was written and the result is that status; or a write failed, whatever that status is
  pub finished : Finishes text status sink writes result

-- the status is one of these
abbrev pub IsAmong : List Status → Status → Type 0
IsAmong [] status = ⊥
IsAmong (one ∷ others) status = (status ≡ one) ⊎ IsAmong others status

-- no words are given, and the source tells this input
pub record Offers (words : List TryString) (source : Use) (input : List ℕ) : Type 0 where
  pub no_words : words ≡ []
  pub told : source.told ≡ Some input

-- Which results there can be, whatever the sink does. A fault comes only if its count rose, so a quiet device has none.
pub record EndsAmong (meaning : Meaning) (words : List TryString) (source sink : Use) (result : Status) : Type 0 where
  pub script : (input : List ℕ) → Offers words source input → length input ≤ INPUT_LIMIT → meaning.is_script input
      → IsAmong (Done ∷ Oom ∷ ReadFault ∷ WriteFault ∷ []) result
  pub no_script : (input : List ℕ) → Offers words source input → length input ≤ INPUT_LIMIT → ¬ meaning.is_script input
      → IsAmong (Syntax ∷ Oom ∷ ReadFault ∷ WriteFault ∷ []) result
  pub too_long : (input : List ℕ) → Offers words source input → INPUT_LIMIT < length input
      → IsAmong (TooLong ∷ Oom ∷ ReadFault ∷ WriteFault ∷ []) result
  pub text : (text : List ℕ) → meaning.asks_for_text words text → IsAmong (Done ∷ Oom ∷ WriteFault ∷ []) result
  pub usage : meaning.asks_for_usage words → IsAmong (Usage ∷ WriteFault ∷ []) result
  pub only_usage : result ≡ Usage → meaning.asks_for_usage words
  pub read_fault : result ≡ ReadFault → HasFaults source
  pub write_fault : result ≡ WriteFault → HasFaults sink
