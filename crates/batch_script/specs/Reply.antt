-- The text of replies.
use Rattle.std.specs.Prelude.{ℕ, true, false, List, [], ◌∷◌, ◌++◌, codes}
use Rattle.std.specs.List.{flat_map}
use Rattle.std.specs.Option.{option_map_or}
use Rattle.std.specs.Fmt.{decimal}
use Rattle.std.specs.FinMap.{entries}
use Rattle.wic_bitset.specs.Rising.{rising}
use Rattle.batch_core.specs.Batch.{Outcome, committed, aborted, refused}
use Rattle.batch_core.specs.declared.command.Cause.{Cause}
use Rattle.batch_core.specs.declared.record.Record.{Record}
use Rattle.batch_core.specs.declared.record.Record.TheVariants.{Pushed, Popped, Replaced, Allocated, Freed, Put as Overwritten}
use Rattle.batch_core.specs.declared.record.Record.TheVariants.{Inserted, Removed, Cut, Truncated}
use Rattle.wic_error.specs.Chain.{line}
use Rattle.batch_script.specs.declared.kind.BatchKind.{BatchKind}
use Rattle.batch_script.specs.declared.kind.BatchKind.TheVariants.{TooLarge, Command, Reserve}
use Rattle.batch_script.specs.Kind.{kind_text, kind_of_cause}
use Rattle.batch_script.specs.Machine.{Reply, reserved, reserve_too_large, shown, answered, no_memory}
use Rattle.batch_script.specs.Grammar.{Line}

-- the line that a record shows: the reply to its command. A value that was cut off has none of its own.
abbrev pub record_lines : Record ℕ → List Line
record_lines Pushed = codes "ok" ∷ []
record_lines (Popped value) = (codes "popped " ++ decimal value) ∷ []
record_lines (Replaced at old) = (codes "was " ++ decimal old) ∷ []
record_lines (Allocated id) = (codes "id " ++ decimal id) ∷ []
record_lines (Freed id old) = (codes "freed " ++ decimal old) ∷ []
record_lines (Overwritten id old) = (codes "was " ++ decimal old) ∷ []
record_lines (Inserted number true) = codes "new" ∷ []
record_lines (Inserted number false) = codes "present" ∷ []
record_lines (Removed number true) = codes "removed" ∷ []
record_lines (Removed number false) = codes "absent" ∷ []
record_lines (Cut value) = []
record_lines (Truncated removed) = (codes "cut " ++ decimal removed) ∷ []

-- what the program writes if memory runs out
abbrev pub oom_line : Line
oom_line = codes "error: out of memory"

-- what it writes if a read fails
abbrev pub read_fault_line : Line
read_fault_line = codes "error: read fault"

-- what it writes if the input is too long
abbrev pub too_long_line : Line
too_long_line = codes "error: input too long"

-- what there was no memory for, as a refusal says it
abbrev pub no_memory_text : List ℕ
no_memory_text = codes "out of memory"

-- why a command was refused, in words
abbrev pub cause_text : Cause → List ℕ
cause_text cause = option_map_or kind_text (kind_of_cause cause) no_memory_text

-- a refusal: the line of an error whose root is why, in the context of what was refused
abbrev pub refusal_line : BatchKind → List ℕ → Line
refusal_line what why = codes "refused: " ++ line (kind_text what ∷ why ∷ [])

-- the lines of what a batch came to
abbrev pub outcome_lines : Outcome ℕ → List Line
outcome_lines (committed records) = flat_map record_lines records ++ codes "committed" ∷ []
outcome_lines aborted = codes "aborted" ∷ []
outcome_lines (refused bad) = refusal_line (Command bad.at) (cause_text bad.cause) ∷ []

-- a word, and one space and a text for each element
abbrev pub listing : {X : Type 0} → List ℕ → (X → List ℕ) → List X → Line
listing word text elements = word ++ flat_map (λ element. 32 ∷ text element) elements

-- an id with its value
abbrev pub pair_text : ℕ × ℕ → List ℕ
pair_text pair = decimal pair.0 ++ codes "=" ++ decimal pair.1

-- the lines of the reply to one item
abbrev pub reply_lines : Reply → List Line
reply_lines reserved = codes "reserved" ∷ []
reply_lines reserve_too_large = refusal_line Reserve (kind_text TooLarge) ∷ []
reply_lines (shown list set live next) =
    listing (codes "list") decimal list
    ∷ listing (codes "set") decimal (rising set)
    ∷ listing (codes "table") pair_text (entries live)
    ∷ (codes "next " ++ decimal next) ∷ []
reply_lines (answered outcome) = outcome_lines outcome
reply_lines no_memory = (codes "refused: " ++ no_memory_text) ∷ []

-- the text of lines, each of which is ended by a line feed
abbrev pub text_of_lines : List Line → List ℕ
text_of_lines = flat_map (λ line. line ++ 10 ∷ [])

-- the text of replies, one after the other
abbrev pub text_of : List Reply → List ℕ
text_of replies = text_of_lines (flat_map reply_lines replies)
