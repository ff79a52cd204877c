-- Scripts of nests: what the bodies of their items come to, how they are printed, and which inputs they are.
use Rattle.std.specs.Prelude.{ℕ, List, [], map, codes}
use Rattle.std.specs.List.{AllByRecursion}
use Rattle.batch_core.specs.declared.command.End.TheVariants.{Commit, Abort}
use Rattle.batch_script.specs.Grammar.{Line, Printing, IsWritable, line_of, word_of, numbers_of, end_line}
use Rattle.batch_script.specs.Grammar.{IsScriptOver, IsFaultLineOver, IsOpenOver}
use Rattle.batch_script.specs.Machine.{Bodies, ItemOf}
use Rattle.batch_script.specs.Refusal.{IsJustifiedBy}
use Rattle.batch_script.specs.RunText.{IsRunTextOver}
use Rattle.batch_script.specs.declared.run_error.RunError.{RunError}
use Rattle.batch_nest.specs.declared.nest.NestLine.{NestLine}
use Rattle.batch_nest.specs.declared.nest.NestLine.TheVariants.{Command as CommandLine, Begin as BeginLine}
use Rattle.batch_nest.specs.declared.nest.NestLine.TheVariants.{Commit as CommitLine, Abort as AbortLine}
use Rattle.batch_nest.specs.Nest.{Body, nest_lines, nest_course, nest_places}

-- what a body comes to, and how many places it needs to begin
abbrev pub nest_bodies : Bodies (Body ℕ)
nest_bodies = record { course = nest_course; places = nest_places }

-- one item of a script of nests: a nest has its body and its end
abbrev pub PlainNestItem : Type 0
PlainNestItem = ItemOf (Body ℕ)

-- the word that a line of a nest begins with
abbrev pub line_word : NestLine ℕ → List ℕ
line_word (CommandLine command) = word_of command
line_word BeginLine = codes "begin"
line_word CommitLine = end_line Commit
line_word AbortLine = end_line Abort

-- the numbers that follow it
abbrev pub line_numbers : NestLine ℕ → List ℕ
line_numbers (CommandLine command) = numbers_of command
line_numbers BeginLine = []
line_numbers CommitLine = []
line_numbers AbortLine = []

-- what a line of a nest is printed as
abbrev pub printed_line : NestLine ℕ → Line
printed_line line = line_of (line_word line) (line_numbers line)

-- a line of a nest has only numbers that a script can write
abbrev pub IsValidLine : NestLine ℕ → Type 0
IsValidLine line = AllByRecursion IsWritable (line_numbers line)

-- a body is printed as its lines, which have only numbers that a script can write
abbrev pub nest_printing : Printing (Body ℕ)
nest_printing = record {
  body_lines = λ body. map printed_line (nest_lines body);
  is_valid = λ body. AllByRecursion IsValidLine (nest_lines body);
}

-- the input is a script of nests
abbrev pub IsNestScript : List ℕ → Type 0
IsNestScript = IsScriptOver nest_printing

-- the fault of an input that is no script of nests is at this line
abbrev pub IsNestFaultLine : List ℕ → ℕ → Type 0
IsNestFaultLine = IsFaultLineOver nest_printing

-- these lines begin the lines of a script of nests
abbrev pub IsNestOpen : List Line → Type 0
IsNestOpen = IsOpenOver nest_printing

-- the input is a script of nests, and the text is that of one run of its items from empty
abbrev pub IsNestRunText : List ℕ → List ℕ → Type 0
IsNestRunText = IsRunTextOver nest_bodies nest_printing

-- a fault is told only if the input is no script of nests, at the line of its fault; out of memory may always be told
abbrev pub IsNestJustified : List ℕ → RunError → Type 0
IsNestJustified = IsJustifiedBy IsNestScript IsNestFaultLine
