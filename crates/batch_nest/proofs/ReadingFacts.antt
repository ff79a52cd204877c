-- What a line does to what was read of a script of nests, and where reading stops.
use Rattle.std.proofs.Common.{◌≡◌, ◌≢◌, ℕ, List, [], ◌∷◌, ◌++◌, map, refl, sym, ap, ◌∙◌, subst, Some, None}
use Rattle.std.proofs.lemmas.List.{map-append}
use Rattle.std.specs.Prelude.{IsSome, Option, codes}
use Rattle.std.specs.List.{AllByRecursion}
use Rattle.batch_core.specs.declared.command.Command.{Command}
use Rattle.batch_core.specs.declared.command.End.{End}
use Rattle.batch_core.specs.declared.command.End.TheVariants.{Commit, Abort}
use Rattle.batch_script.specs.Grammar.{Line, IsValidItemOver, IsWritable, line_of, lines_of, printed_over}
use Rattle.batch_script.specs.Grammar.{end_line, numbers_of, word_of}
use Rattle.batch_script.specs.Machine.{PlainItem, reserve, show, batch}
use Rattle.batch_script.specs.Reading.{HasParts, TakesLineOver, first_numbers, first_word, open_lines_over}
use Rattle.batch_script.specs.ReadingLaws.{AllByRecursion-append}
use Rattle.batch_script.proofs.LineFacts.{line_of_none}
use Rattle.batch_script.proofs.ReadingFacts.{begun_is_no_script, parts_start_none, read_item, read_on, stuck_inside, stuck_outside}
use Rattle.batch_nest.specs.declared.item.NestItem.{NestItem}
use Rattle.batch_nest.specs.declared.item.NestItem.TheVariants.{Reserve, Show}
use Rattle.batch_nest.specs.declared.nest.NestLine.{NestLine}
use Rattle.batch_nest.specs.declared.nest.NestLine.TheVariants.{Command as CommandLine, Begin as BeginLine}
use Rattle.batch_nest.specs.declared.nest.NestLine.TheVariants.{Commit as CommitLine, Abort as AbortLine}
use Rattle.batch_nest.specs.declared.parser.NestReading.{NestReading}
use Rattle.batch_nest.specs.declared.parser.OpenNest.{OpenNest}
use Rattle.batch_nest.specs.Nest.{IsBalanced, body_of, nest_end}
use Rattle.batch_nest.specs.Reading.{HasReadNests, HaveRead, IsOpenNest, StandFor, StandsForItem, TakesNestLine, open_printing}
use Rattle.batch_nest.specs.ReadingLaws.{one_line_word}
use Rattle.batch_nest.specs.Script.{PlainNestItem, IsNestOpen, IsNestScript, IsValidLine}
use Rattle.batch_nest.specs.Script.{line_numbers, line_word, nest_printing, printed_line}
use Rattle.batch_nest.proofs.OpenFacts.{IsOpenAt, balanced_at_none, next_in_nest, unended_nest}
use Rattle.batch_nest.proofs.PrintFacts.{nests_told, printed_end}

stand_for_one_more : (items : List NestItem) (plains : List PlainNestItem) (item : NestItem) (plain : PlainNestItem)
    → StandFor items plains → StandsForItem item plain → StandFor (items ++ item ∷ []) (plains ++ plain ∷ [])
stand_for_one_more [] [] item plain stand stands = (stands, tt)
stand_for_one_more [] (one ∷ plains) item plain stand stands = absurd stand
stand_for_one_more (one ∷ items) [] item plain stand stands = absurd stand
stand_for_one_more (one ∷ items) (other ∷ plains) item plain stand stands =
    (stand.0, stand_for_one_more items plains item plain stand.1 stands)

-- an item ends with this line
ends_item : (items : List NestItem) (begun : Option OpenNest) (item : NestItem) (plain : PlainNestItem) (lines : List Line) (line : Line)
    → (was : HaveRead items begun lines) → StandsForItem item plain → IsValidItemOver nest_printing plain
    → open_lines_over open_printing begun ++ line ∷ [] ≡ printed_over nest_printing plain
    → HaveRead (items ++ item ∷ []) None (lines ++ line ∷ [])
ends_item items begun item plain lines line was stands valid printed = (
  was.0 ++ plain ∷ [],
  stand_for_one_more items was.0 item plain was.1 stands,
  read_item nest_printing open_printing was.0 begun lines plain line was.2 valid printed,
)

-- a reservation
pub read_reserve : (items : List NestItem) (number : ℕ) (lines : List Line) (line word numbers : List ℕ) → HaveRead items None lines
    → HasParts line word numbers → word ≡ codes "reserve" → numbers ≡ number ∷ []
    → HaveRead (items ++ Reserve number ∷ []) None (lines ++ line ∷ [])
read_reserve items number lines line word numbers was has is are =
    ends_item items None (Reserve number) (reserve number) lines line was refl (subst (AllByRecursion IsWritable) are has.writable).0
    (ap (λ line. line ∷ []) (has.same ∙ (λ i. line_of (is i) (are i))))

-- a show
pub read_show : (items : List NestItem) (lines : List Line) (line word numbers : List ℕ) → HaveRead items None lines
    → HasParts line word numbers → word ≡ codes "show" → numbers ≡ [] → HaveRead (items ++ Show ∷ []) None (lines ++ line ∷ [])
read_show items lines line word numbers was has is are =
    ends_item items None Show show lines line was tt tt (ap (λ line. line ∷ []) (has.same ∙ (λ i. line_of (is i) (are i))))

-- a line of the nest that has begun
pub read_nest_line : (items : List NestItem) (begun next : OpenNest) (lines : List Line) (line : NestLine ℕ)
    → HaveRead items (Some begun) lines → IsValidLine line → next.lines.items ≡ begun.lines.items ++ line ∷ []
    → (IsOpenAt begun.lines.items begun.depth → IsOpenAt (begun.lines.items ++ line ∷ []) next.depth)
    → HaveRead items (Some next) (lines ++ printed_line line ∷ [])
read_nest_line items begun next lines line was valid is goes_on =
    let front = begun.lines.items in
    let valid_next : IsOpenNest next = record {
      valid = subst (AllByRecursion IsValidLine) (sym is)
          (AllByRecursion-append IsValidLine front (line ∷ []) was.2.valid_open.valid (valid, tt));
      balanced = subst (λ lines. IsOpenAt lines next.depth) (sym is) (goes_on was.2.valid_open.balanced);
    } in (
      was.0,
      was.1,
      read_on nest_printing open_printing was.0 begun next lines (printed_line line) was.2 valid_next
          (ap (map printed_line) is ∙ map-append printed_line front (line ∷ [])),
    )

-- what takes a line of a nest takes one of its word and its numbers
pub takes_parts : (old new : NestReading) (known : NestLine ℕ) (word numbers : List ℕ) → word ≡ line_word known
    → numbers ≡ line_numbers known → TakesNestLine old new known
    → TakesLineOver HasReadNests HasReadNests old new word numbers
takes_parts old new known word numbers is are takes = λ lines line has was.
    subst (λ line. HasReadNests new (lines ++ line ∷ [])) (sym (has.same ∙ (λ i. line_of (is i) (are i))))
    (takes lines (subst (AllByRecursion IsWritable) are has.writable) was)

-- so with the word of an end and no numbers
pub takes_end_word : (old new : NestReading) (ending : End) (word numbers : List ℕ) → word ≡ end_line ending → numbers ≡ []
    → TakesNestLine old new (nest_end ending) → TakesLineOver HasReadNests HasReadNests old new word numbers
takes_end_word old new Commit word numbers = takes_parts old new CommitLine word numbers
takes_end_word old new Abort word numbers = takes_parts old new AbortLine word numbers

-- the end of the nest that has begun
pub read_nest_end : (items : List NestItem) (item : NestItem) (begun : OpenNest) (lines : List Line) (ending : End)
    → HaveRead items (Some begun) lines → begun.depth ≡ 0
    → ((balanced : IsBalanced begun.lines.items) → StandsForItem item (batch (body_of begun.lines.items) ending))
    → HaveRead (items ++ item ∷ []) None (lines ++ printed_line (nest_end ending) ∷ [])
read_nest_end items item begun lines ending was none stands =
    let balanced = balanced_at_none begun.lines.items begun.depth none was.2.valid_open.balanced in
    ends_item items (Some begun) item (batch (body_of begun.lines.items) ending) lines (printed_line (nest_end ending)) was (stands balanced)
    (subst (AllByRecursion IsValidLine) balanced was.2.valid_open.valid)
    (λ i. codes "begin" ∷ (map printed_line (balanced i) ++ printed_end ending i ∷ []))

-- a word and numbers that are no command, end no batch and begin none are no line of a nest
pub no_line_word : (word numbers : List ℕ) → ((command : Command ℕ) → numbers_of command ≡ numbers → word_of command ≢ word)
    → ((ending : End) → numbers ≡ [] → end_line ending ≢ word) → (numbers ≡ [] → codes "begin" ≢ word)
    → (line : NestLine ℕ) → line_numbers line ≡ numbers → line_word line ≢ word
no_line_word word numbers no_command no_end no_begin (CommandLine command) = no_command command
no_line_word word numbers no_command no_end no_begin BeginLine = λ are. no_begin (sym are)
no_line_word word numbers no_command no_end no_begin CommitLine = λ are. no_end Commit (sym are)
no_line_word word numbers no_command no_end no_begin AbortLine = λ are. no_end Abort (sym are)

-- a show is no begin
pub show_word : (word : List ℕ) → word ≡ codes "show" → codes "begin" ≢ word
show_word word is same = absurd (let bad : codes "begin" ≡ codes "show" = same ∙ is in cc)

-- one number is not none
pub some_number : (number : ℕ) (numbers : List ℕ) → numbers ≡ number ∷ [] → numbers ≢ []
some_number number numbers are none = absurd (cc)

-- the line after these is no first line of an item
pub stuck_outside_nests : (items : List NestItem) (lines : List Line) (line word numbers : List ℕ) → HaveRead items None lines
    → HasParts line word numbers → ((item : PlainItem) → first_numbers item ≡ numbers → first_word item ≢ word)
    → ¬ IsNestOpen (lines ++ line ∷ [])
stuck_outside_nests items lines line word numbers was has never =
    stuck_outside nest_printing open_printing nests_told was.0 lines was.2 line
    (parts_start_none nest_printing line word numbers has never)

-- in a nest only a line of a nest goes on
pub stuck_in_nest : (items : List NestItem) (begun : Option OpenNest) (lines : List Line) (line word numbers : List ℕ)
    → IsSome begun → HaveRead items begun lines → HasParts line word numbers
    → ((known : NestLine ℕ) → line_numbers known ≡ numbers → line_word known ≢ word) → ¬ IsNestOpen (lines ++ line ∷ [])
stuck_in_nest items None lines line word numbers some was has never = absurd (cc)
stuck_in_nest items (Some begun) lines line word numbers some was has never =
    let valid = was.2.valid_open in
    stuck_inside nest_printing open_printing nests_told was.0 lines begun was.2 line (λ rest whole.
    let goes = next_in_nest begun.lines.items begun.depth valid.valid valid.balanced line rest whole in
    line_of_none line_word line_numbers one_line_word line word numbers has never goes.0 goes.1 goes.2)

-- with a nest that has begun and not ended the input is no script
pub begun_is_none : (items : List NestItem) (begun : OpenNest) (input : List ℕ) → HaveRead items (Some begun) (lines_of input)
    → ¬ IsNestScript input
begun_is_none items begun input was =
    let valid = was.2.valid_open in
    begun_is_no_script nest_printing open_printing nests_told was.0 (lines_of input) begun was.2
    (unended_nest begun.lines.items begun.depth valid.valid valid.balanced) input refl
