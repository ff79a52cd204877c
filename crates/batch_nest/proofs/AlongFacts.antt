-- How far a nest has come by its commands alone: as far as a batch of the same commands.
use Rattle.std.proofs.Common.{◌≡◌, ℕ, ◌+◌, ◌≤◌, ◌++◌, length, Option, None, Some, refl, sym, ap, subst, ◌∙◌, arith}
use Rattle.batch_core.specs.State.{Contents, IsSound}
use Rattle.batch_core.specs.Command.{cause_of, effect_of}
use Rattle.batch_core.specs.Back.{Grows, undo_all}
use Rattle.batch_core.specs.Batch.{BadCommand, refused, first_bad, unless_bad, ended, outcome_of}
use Rattle.batch_core.specs.Course.{Course, led_by}
use Rattle.batch_core.specs.Room.{StaysWithin}
use Rattle.batch_core.specs.Applied.{IsShort, RefusedFor}
use Rattle.batch_core.specs.Workspace.{Workspace, IsReady, IsDone}
use Rattle.batch_core.specs.declared.command.Cause.{Cause}
use Rattle.batch_core.specs.declared.command.Cause.TheVariants.{Empty, Position, Vacant, Full, TooLarge, Oom}
use Rattle.batch_core.specs.declared.command.Command.{Command}
use Rattle.batch_core.specs.declared.command.End.{End}
use Rattle.batch_core.proofs.CourseFacts.{after_front, cut_off}
use Rattle.batch_core.proofs.RunFacts.{IsAlong, along_step, bad_refused}

module _ {X : Type 0} where
  -- a batch of the same commands as this course has come as far
  pub record IsAlongAs (whole : Course X) (first now : Workspace X) (later : Course X) (at : ℕ) : Type 0 where
    pub batch : Course X
    pub same : batch.stands ≡ whole.stands
    pub along : IsAlong batch first now later at

  -- so has one that is to go on by the same commands, after as many records or fewer and with the same contents at first
  pub along_again : (whole : Course X) (first now next : Workspace X) (later coming : Course X) (at : ℕ)
      → IsAlongAs whole first now later at → later.stands ≡ coming.stands → length next.records ≤ length now.records
      → next.capacities ≡ now.capacities → next.room ≡ now.room → undo_all next.records next.contents ≡ first.contents
      → IsAlongAs whole first next coming at
  along_again whole first now next later coming at was goes_on fewer capacities room back =
      let along = was.along in
      let stands : was.batch.stands ≡ along.front ++ coming.stands =
      ap (λ (course : Course X). course.stands) along.course ∙ ap (λ l. along.front ++ l) goes_on in record {
        batch = after_front along.front next.records coming;
        same = sym stands ∙ was.same;
        along = record {
          front = along.front;
          course = refl;
          count = along.count;
          good = along.good;
          few = omega (arith, along.few, fewer);
          counted = subst
              (λ l. StaysWithin first.room (length l) along.front → length l + cut_off along.front ≤ next.capacities.records) stands
              (λ within. omega (arith, along.counted within, ap (λ k. k.records) capacities));
          back = back;
          room = room ∙ along.room;
          grows = subst (Grows first.capacities) (sym capacities) along.grows;
        };
      }

  -- and so it has after one command more
  pub along_further : (whole : Course X) (first now next : Workspace X) (command : Command X) (later : Contents X → Course X) (at : ℕ)
      → IsAlongAs whole first now (led_by now.contents command (later (effect_of now.contents command))) at → IsReady now
      → IsSound now.contents → cause_of now.contents command ≡ None → IsDone now command next → next.room ≡ now.room
      → Grows now.capacities next.capacities → IsAlongAs whole first next (later next.contents) (at + 1)
  along_further whole first now next command later at was ready sound none took room grows = record {
    batch = was.batch;
    same = was.same;
    along = along_step was.batch first now next command later at was.along ready sound none took room grows;
  }

  by_bad : (o : Option BadCommand) (c : Contents X) (course other : Course X) (ending : End) (bad : BadCommand)
      → o ≡ first_bad course.stands → o ≡ first_bad other.stands → outcome_of c course ending ≡ (refused bad, c)
      → outcome_of c other ending ≡ (refused bad, c)
  by_bad None c course other ending bad here there is = absurd (bad_refused c course ending bad is (sym here))
  by_bad (Some one) c course other ending bad here there is =
      ap (λ o. unless_bad o c (ended c other ending)) (sym there) ∙ ap (λ o. unless_bad o c (ended c course ending)) here ∙ is

  -- the bad command that refuses a course refuses one of the same commands
  same_bad : (c : Contents X) (course other : Course X) (ending : End) (bad : BadCommand) → course.stands ≡ other.stands
      → outcome_of c course ending ≡ (refused bad, c) → outcome_of c other ending ≡ (refused bad, c)
  same_bad c course other ending bad same is =
      by_bad (first_bad other.stands) c course other ending bad (ap first_bad (sym same)) refl is

  -- what refuses a course refuses each course of the same commands
  pub same_refused : (room places : ℕ) (c : Contents X) (course other : Course X) (ending : End) (cause : Cause) (at : ℕ)
      → course.stands ≡ other.stands → RefusedFor room places c course ending cause at → RefusedFor room places c other ending cause at
  same_refused room places c course other ending Empty at same is = same_bad c course other ending _ same is
  same_refused room places c course other ending Position at same is = same_bad c course other ending _ same is
  same_refused room places c course other ending Vacant at same is = same_bad c course other ending _ same is
  same_refused room places c course other ending Full at same is = same_bad c course other ending _ same is
  same_refused room places c course other ending TooLarge at same is = same_bad c course other ending _ same is
  same_refused room places c course other ending (Oom size) at same is = subst (λ l. IsShort room places l at) same is
