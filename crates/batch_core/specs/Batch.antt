-- What a batch comes to: it takes effect whole, or not at all.
use Rattle.std.specs.Prelude.{ℕ, ◌+◌, List, [], ◌∷◌, Option, Some, None}
use Rattle.std.specs.Option.{option_map}
use Rattle.batch_core.specs.State.{Contents}
use Rattle.batch_core.specs.Command.{cause_of}
use Rattle.batch_core.specs.Course.{Stand, Course}
use Rattle.batch_core.specs.declared.command.Cause.{Cause}
use Rattle.batch_core.specs.declared.record.Record.{Record}
use Rattle.batch_core.specs.declared.command.End.{End}
use Rattle.batch_core.specs.declared.command.End.TheVariants.{Commit, Abort}

-- a bad command: why it isn't admitted, and its number in the batch, from 1
pub record BadCommand : Type 0 where
  pub cause : Cause
  pub at : ℕ

-- what a batch comes to
pub data Outcome (T : Type 0) : Type 0 where
  committed : List (Record T) → Outcome T
  aborted : Outcome T
  refused : BadCommand → Outcome T

-- the same command, counted from so many places earlier
abbrev pub later_by : ℕ → BadCommand → BadCommand
later_by places bad = record bad { at = places + bad.at }

-- the first bad command: the first command if it has a cause, or else one after it
abbrev pub front_or_later : Option Cause → Option BadCommand → Option BadCommand
front_or_later (Some cause) later = Some (record { cause = cause; at = 1 })
front_or_later None later = option_map (later_by 1) later

module _ {T : Type 0} where
  -- the first bad command, if there is one: those before it are admitted where they stand, and it isn't
  abbrev pub first_bad : List (Stand T) → Option BadCommand
  first_bad [] = None
  first_bad (stand ∷ stands) = front_or_later (cause_of stand.contents stand.command) (first_bad stands)

  -- the outcome and the contents after a course with no bad command
  abbrev pub ended : Contents T → Course T → End → Outcome T × Contents T
  ended contents course Commit = (committed course.records, course.after)
  ended contents course Abort = (aborted, contents)

  -- a bad command refuses the whole batch, whatever its end, and the old contents stay
  abbrev pub unless_bad : Option BadCommand → Contents T → Outcome T × Contents T → Outcome T × Contents T
  unless_bad (Some bad) contents otherwise = (refused bad, contents)
  unless_bad None contents otherwise = otherwise

  -- the outcome of a batch of this course, and the contents after it
  abbrev pub outcome_of : Contents T → Course T → End → Outcome T × Contents T
  outcome_of contents course ending = unless_bad (first_bad course.stands) contents (ended contents course ending)
