-- How many commands a course has.
use Rattle.std.proofs.Common.{◌≡◌, ◌+◌, List, [], ◌∷◌, ◌++◌, length, refl, ap, arith, length-append}
use Rattle.batch_core.specs.State.{Contents}
use Rattle.batch_core.specs.Command.{effect_of}
use Rattle.batch_core.specs.Course.{Course}
use Rattle.batch_core.specs.declared.command.End.{End}
use Rattle.batch_core.specs.declared.command.End.TheVariants.{Commit, Abort}
use Rattle.batch_nest.specs.declared.nest.NestLine.{NestLine}
use Rattle.batch_nest.specs.declared.nest.NestLine.TheVariants.{Command as CommandLine, Begin as BeginLine}
use Rattle.batch_nest.specs.declared.nest.NestLine.TheVariants.{Commit as CommitLine, Abort as AbortLine}
use Rattle.batch_nest.specs.Nest.{Body, done, then_command, then_inner, nest_end, nest_lines, command_lines, left_by, nest_course}

module _ {X : Type 0} where
  commands-append : (lines more : List (NestLine X)) → command_lines (lines ++ more) ≡ command_lines lines + command_lines more
  commands-append [] more = omega arith
  commands-append (CommandLine command ∷ lines) more = omega (arith, commands-append lines more)
  commands-append (BeginLine ∷ lines) more = commands-append lines more
  commands-append (CommitLine ∷ lines) more = commands-append lines more
  commands-append (AbortLine ∷ lines) more = commands-append lines more

  no_command : (ending : End) (lines : List (NestLine X)) → command_lines (nest_end ending ∷ lines) ≡ command_lines lines
  no_command Commit lines = refl
  no_command Abort lines = refl

  same_stands : (start : Contents X) (inner : Course X) (ending : End) → (left_by start inner ending).stands ≡ inner.stands
  same_stands start inner Commit = refl
  same_stands start inner Abort = refl

  -- a course has as many commands as the lines
  pub count_stands : (c : Contents X) (body : Body X) → length (nest_course c body).stands ≡ command_lines (nest_lines body)
  count_stands c done = refl
  count_stands c (then_command command later) = omega (arith, count_stands (effect_of c command) later)
  count_stands c (then_inner inner ending later) =
      let left = left_by c (nest_course c inner) ending in
      omega (
        arith,
        length-append left.stands (nest_course left.after later).stands,
        ap length (same_stands c (nest_course c inner) ending),
        count_stands c inner,
        count_stands left.after later,
        commands-append (nest_lines inner) (nest_end ending ∷ nest_lines later),
        no_command ending (nest_lines later),
      )
