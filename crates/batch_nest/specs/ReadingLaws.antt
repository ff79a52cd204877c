-- Each line of a nest is a word with up to two numbers, and what was read of a script of nests begins one.
use Rattle.std.proofs.Common.{◌≡◌, ℕ, zero, suc, ◌≤◌, false, List, [], ◌∷◌, ◌++◌, length, map, refl, ap, sym, ◌∙◌, arith}
use Rattle.std.proofs.Common.{append_assoc, subst}
use Rattle.std.specs.List.{AllByRecursion}
use Rattle.std.proofs.lemmas.List.{map-append}
use Rattle.batch_core.specs.declared.command.End.TheVariants.{Commit}
use Rattle.batch_script.specs.Grammar.{Line, end_line}
use Rattle.batch_script.specs.Reading.{CanEnd, HasPartsThroughout, HasSomeParts, has_space}
use Rattle.batch_script.specs.ReadingLaws.{AllByRecursion-append, all_have_parts, begins_over, few_numbers, one_word}
use Rattle.batch_nest.specs.declared.nest.NestLine.{NestLine}
use Rattle.batch_nest.specs.declared.nest.NestLine.TheVariants.{Command as CommandLine, Begin as BeginLine}
use Rattle.batch_nest.specs.declared.nest.NestLine.TheVariants.{Commit as CommitLine, Abort as AbortLine}
use Rattle.batch_nest.specs.declared.parser.NestReading.{NestReading}
use Rattle.batch_nest.specs.Nest.{body_of, nest_lines}
use Rattle.batch_nest.specs.Reading.{HasReadNests, commits, open_printing}
use Rattle.batch_nest.specs.Script.{IsNestOpen, IsValidLine, line_numbers, line_word, nest_printing, printed_line}

-- the word of a line has no space
pub one_line_word : (line : NestLine ℕ) → has_space (line_word line) ≡ false
one_line_word (CommandLine command) = one_word command
one_line_word BeginLine = refl
one_line_word CommitLine = refl
one_line_word AbortLine = refl

-- and at most two numbers follow it
few_line_numbers : (line : NestLine ℕ) → length (line_numbers line) ≤ 2
few_line_numbers (CommandLine command) = few_numbers command
few_line_numbers BeginLine = omega arith
few_line_numbers CommitLine = omega arith
few_line_numbers AbortLine = omega arith

-- so a valid line is a word with up to two numbers
line_has_parts : (line : NestLine ℕ) → IsValidLine line → HasSomeParts (printed_line line)
line_has_parts line valid = (
  line_word line,
  line_numbers line,
  few_line_numbers line,
  record { is_word = one_line_word line; writable = valid; same = refl },
)

-- and so is each line of a valid body
pub nests_have_parts : HasPartsThroughout nest_printing
nests_have_parts body valid = all_have_parts IsValidLine printed_line line_has_parts (nest_lines body) valid

commits_are_valid : (depth : ℕ) → AllByRecursion IsValidLine (commits depth)
commits_are_valid zero = tt
commits_are_valid (suc depth) = (tt, commits_are_valid depth)

-- a nest that has begun can end: by a commit for each batch that is open
nests_can_end : CanEnd nest_printing open_printing
nests_can_end begun valid =
    let front = begun.lines.items in
    let ends = commits begun.depth in
    let body = body_of (front ++ ends) in
    let last = end_line Commit ∷ [] in (
      body,
      Commit,
      map printed_line ends ++ last,
      subst (AllByRecursion IsValidLine) valid.balanced
          (AllByRecursion-append IsValidLine front ends valid.valid (commits_are_valid begun.depth)),
      sym (append_assoc (map printed_line front) (map printed_line ends) last)
          ∙ ap (λ lines. lines ++ last) (sym (map-append printed_line front ends) ∙ ap (map printed_line) valid.balanced),
    )

-- what was read begins a script of nests
pub begins_nest_script : (reading : NestReading) (lines : List Line) → HasReadNests reading lines → IsNestOpen lines
begins_nest_script reading lines was = begins_over nest_printing open_printing nests_can_end was.0 reading.begun lines was.2
