-- Lines of nests are told apart by what they are printed as, and printed bodies tell what they are.
use Rattle.std.proofs.Common.{◌≡◌, ◌⊎◌, ℕ, List, [], ◌∷◌, ◌++◌, map, refl, sym, ap, ◌∙◌, inl, inr, append_assoc}
use Rattle.std.proofs.lemmas.List.{map-append}
use Rattle.std.specs.Prelude.{codes, bytes_eq, if◌then◌else◌}
use Rattle.std.specs.List.{AllByRecursion}
use Rattle.batch_core.specs.declared.command.End.{End}
use Rattle.batch_core.specs.declared.command.End.TheVariants.{Commit, Abort}
use Rattle.batch_script.specs.Grammar.{Line, TellsBodies, ended_lines}
use Rattle.batch_script.specs.Grammar.{end_line, numbers_of, word_of}
use Rattle.batch_script.specs.ReadingLaws.{AllByRecursion-append}
use Rattle.batch_script.proofs.LineFacts.{known_by_line}
use Rattle.batch_script.proofs.ScriptFacts.{command_from, command_known, is_bound}
use Rattle.batch_nest.specs.declared.nest.NestLine.{NestLine}
use Rattle.batch_nest.specs.declared.nest.NestLine.TheVariants.{Command as CommandLine, Begin as BeginLine}
use Rattle.batch_nest.specs.declared.nest.NestLine.TheVariants.{Commit as CommitLine, Abort as AbortLine}
use Rattle.batch_nest.specs.Nest.{Body, nest_lines, nest_end}
use Rattle.batch_nest.specs.ReadingLaws.{one_line_word}
use Rattle.batch_nest.specs.Script.{IsValidLine, line_numbers, line_word, nest_printing, printed_line}
use Rattle.batch_nest.proofs.ShapeFacts.{heads, same_end}
use Rattle.batch_nest.proofs.TellFacts.{ends_at, tells}

-- the line of a word that begins or ends a batch
abbrev bound_from : List ℕ → NestLine ℕ
bound_from word =
    if bytes_eq word (codes "begin") then BeginLine
    else if bytes_eq word (codes "commit") then CommitLine
    else AbortLine

-- the line of a word and its numbers
abbrev line_from : List ℕ → List ℕ → NestLine ℕ
line_from word numbers = if is_bound word then bound_from word else CommandLine (command_from word numbers)

-- a line is made again of its word and its numbers
same_again : (line : NestLine ℕ) → line_from (line_word line) (line_numbers line) ≡ line
same_again (CommandLine command) =
    let known = command_known command in
    ap (λ bound. if bound then bound_from (word_of command) else CommandLine (command_from (word_of command) (numbers_of command)))
    known.1
    ∙ ap CommandLine known.0
same_again BeginLine = refl
same_again CommitLine = refl
same_again AbortLine = refl

-- so it is known by what it is printed as
same_nest_line : (line other : NestLine ℕ) → IsValidLine line → IsValidLine other → printed_line line ≡ printed_line other → line ≡ other
same_nest_line = known_by_line line_word line_numbers one_line_word line_from same_again

-- the other lines are these and more, and what follows these is the print of the more and what follows the others
pub record IsLonger (lines others : List (NestLine ℕ)) (rest more : List Line) : Type 0 where
  pub behind : List (NestLine ℕ)
  pub lines_are : others ≡ lines ++ behind
  pub rest_is : rest ≡ map printed_line behind ++ more

-- of two lists of lines that print the front of the same, one goes on with more
pub one_is_longer : (lines others : List (NestLine ℕ)) (rest more : List Line) → AllByRecursion IsValidLine lines
    → AllByRecursion IsValidLine others → map printed_line lines ++ rest ≡ map printed_line others ++ more
    → IsLonger lines others rest more ⊎ IsLonger others lines more rest
one_is_longer [] others rest more valid sound same = inl (record { behind = others; lines_are = refl; rest_is = same })
one_is_longer (line ∷ lines) [] rest more valid sound same =
    inr (record { behind = line ∷ lines; lines_are = refl; rest_is = sym same })
one_is_longer (line ∷ lines) (other ∷ others) rest more valid sound same =
    let first : printed_line line ≡ printed_line other = cc in
    let tails : map printed_line lines ++ rest ≡ map printed_line others ++ more = cc in
    let known : line ≡ other = same_nest_line line other valid.0 sound.0 first in
    elim (one_is_longer lines others rest more valid.1 sound.1 tails) [
      | inl longer ↦ let later = longer.lines_are in inl (record {
        behind = longer.behind;
        lines_are = let is : others ≡ lines ++ longer.behind = longer.lines_are in cc;
        rest_is = longer.rest_is;
      })
      | inr longer ↦ inr (record {
        behind = longer.behind;
        lines_are = let is : lines ≡ others ++ longer.behind = longer.lines_are in cc;
        rest_is = longer.rest_is;
      })
    ]

-- the lines of a body and the one that ends it
abbrev pub closed_lines : Body ℕ → End → List (NestLine ℕ)
closed_lines body ending = nest_lines body ++ nest_end ending ∷ []

pub printed_end : (ending : End) → printed_line (nest_end ending) ≡ end_line ending
printed_end Commit = refl
printed_end Abort = refl

valid_end : (ending : End) → IsValidLine (nest_end ending)
valid_end Commit = tt
valid_end Abort = tt

-- they are printed line by line
pub closed_printed : (body : Body ℕ) (ending : End) (rest : List Line)
    → ended_lines nest_printing body ending ++ rest ≡ map printed_line (closed_lines body ending) ++ rest
closed_printed body ending rest =
    ap (λ lines. lines ++ rest) (ap (λ line. map printed_line (nest_lines body) ++ line ∷ []) (sym (printed_end ending))
    ∙ sym (map-append printed_line (nest_lines body) (nest_end ending ∷ [])))

-- and valid if the body is
pub closed_valid : (body : Body ℕ) (ending : End) → AllByRecursion IsValidLine (nest_lines body)
    → AllByRecursion IsValidLine (closed_lines body ending)
closed_valid body ending valid = AllByRecursion-append IsValidLine (nest_lines body) (nest_end ending ∷ []) valid (valid_end ending, tt)

-- a body with its end is no front of another one
told_by_longer : (body other : Body ℕ) (ending end : End) (rest more : List Line)
    → IsLonger (closed_lines body ending) (closed_lines other end) rest more → (body ≡ other) × (ending ≡ end) × (rest ≡ more)
told_by_longer body other ending end rest more longer =
    let parts = tells other body (nest_end end ∷ []) (nest_end ending ∷ longer.behind) (ends_at end []) (ends_at ending longer.behind)
    (longer.lines_are ∙ append_assoc (nest_lines body) (nest_end ending ∷ []) longer.behind) in
    let ends = heads (nest_end end) (nest_end ending) [] longer.behind parts.1 in (
      sym parts.0,
      same_end ending end (sym ends.0),
      longer.rest_is ∙ ap (λ behind. map printed_line behind ++ more) (sym ends.1),
    )

-- so the lines of a valid body and its end tell it from every other one
pub nests_told : TellsBodies nest_printing
nests_told body other ending end rest more valid sound same =
    let both = sym (closed_printed body ending rest) ∙ (same ∙ closed_printed other end more) in
    elim (one_is_longer (closed_lines body ending) (closed_lines other end) rest more (closed_valid body ending valid)
    (closed_valid other end sound) both) [
      | inl longer ↦ told_by_longer body other ending end rest more longer
      | inr longer ↦ let parts = told_by_longer other body end ending more rest longer in (sym parts.0, sym parts.1, sym parts.2)
    ]
