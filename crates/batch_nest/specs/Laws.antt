-- Laws of nests: what ties them to batches, what their lines tell, and which rooms they fit.
use Rattle.std.specs.Prelude.{⊤, ◌≡◌, ℕ, ◌≤◌, max, List, [], ◌∷◌, length, map}
use Rattle.batch_core.specs.State.{Contents}
use Rattle.batch_core.specs.Course.{batch_course}
use Rattle.batch_core.specs.declared.command.Command.{Command}
use Rattle.batch_core.specs.declared.command.End.TheVariants.{Commit, Abort}
use Rattle.batch_nest.specs.declared.nest.NestLine.{NestLine}
use Rattle.batch_nest.specs.declared.nest.NestLine.TheVariants.{Command as CommandLine, Begin as BeginLine}
use Rattle.batch_nest.specs.declared.nest.NestLine.TheVariants.{Commit as CommitLine, Abort as AbortLine}
use Rattle.batch_nest.specs.Nest.{Body, done, then_command, then_inner, IsBalanced, begin_lines, body_of, nest_lines}
use Rattle.batch_nest.specs.Nest.{nest_course, nest_places}
use Rattle.batch_nest.specs.Applied.{FitsNest}

module _ {T : Type 0} where
  -- the lines of these commands, and no other ones
  abbrev pub plain_lines : List (Command T) → List (NestLine T)
  plain_lines commands = map CommandLine commands

  -- the commands among the lines, in order
  abbrev pub commands_among : List (NestLine T) → List (Command T)
  commands_among [] = []
  commands_among (CommandLine command ∷ lines) = command ∷ commands_among lines
  commands_among (BeginLine ∷ lines) = commands_among lines
  commands_among (CommitLine ∷ lines) = commands_among lines
  commands_among (AbortLine ∷ lines) = commands_among lines

  -- each inner body ends in commit, at every depth
  abbrev pub AllCommitted : Body T → Type 0
  AllCommitted done = ⊤
  AllCommitted (then_command command later) = AllCommitted later
  AllCommitted (then_inner inner Commit later) = AllCommitted inner × AllCommitted later
  AllCommitted (then_inner inner Abort later) = ⊥

-- lines that are known are balanced if the body that they lead to has them, and lines of commands alone are balanced
pub record BalancedByTheBody (T : Type 0) : Type 0 where
  pub known : (lines known : List (NestLine T)) → lines ≡ known → nest_lines (body_of known) ≡ known → IsBalanced lines
  pub commands : (lines : List (NestLine T)) (commands : List (Command T)) → lines ≡ plain_lines commands → IsBalanced lines

-- a nest without inner lines has the course of the batch of its commands, and needs as many places to begin
abbrev pub WithoutInnerIsBatch : Type 0 → Type 0
WithoutInnerIsBatch T =
    (contents : Contents T) (commands : List (Command T)) (body : Body T)
    → plain_lines commands ≡ nest_lines body
    → (nest_course contents body ≡ batch_course contents commands) × (nest_places body ≡ length commands)

-- A nest whose inner bodies are all committed has the course of the nest without the lines that begin and end them. It needs as many
-- places to begin, or one per inner body if these are more.
abbrev pub AllCommittedIsPlain : Type 0 → Type 0
AllCommittedIsPlain T =
    (contents : Contents T) (body plain : Body T)
    → AllCommitted body → plain_lines (commands_among (nest_lines body)) ≡ nest_lines plain
    → (nest_course contents body ≡ nest_course contents plain)
    × (nest_places body ≡ max (nest_places plain) (begin_lines (nest_lines body)))

-- an inner body that ends in abort leaves what was held at its start, and no records: what follows it ends as if it weren't there
abbrev pub InnerAbortRestores : Type 0 → Type 0
InnerAbortRestores T =
    (contents : Contents T) (inner later : Body T)
    → ((nest_course contents (then_inner inner Abort later)).after ≡ (nest_course contents later).after)
    × ((nest_course contents (then_inner inner Abort later)).records ≡ (nest_course contents later).records)

-- lines are those of one body alone
abbrev pub LinesTellTheBody : Type 0 → Type 0
LinesTellTheBody T = (body other : Body T) → nest_lines body ≡ nest_lines other → body ≡ other

-- a nest that fits a room fits every larger one
abbrev pub FitsLargerRooms : Type 0 → Type 0
FitsLargerRooms T =
    (room larger : ℕ) (contents : Contents T) (body : Body T)
    → room ≤ larger → FitsNest room contents body → FitsNest larger contents body
