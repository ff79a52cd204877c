-- Counts that are enough for a nest stay enough from line to line, whatever an inner abort undoes.
use Rattle.std.proofs.Common.{◌≡◌, ℕ, ◌+◌, ◌≤◌, List, [], ◌∷◌, ◌++◌, length, Option, Some, None}
use Rattle.std.proofs.Common.{refl, ap, subst, sym, ◌∙◌, arith, length-append}
use Rattle.std.specs.Prelude.{IfNone}
use Rattle.std.specs.FinMap.{len}
use Rattle.wic_slab.specs.Order.{next_id}
use Rattle.batch_core.specs.State.{Contents}
use Rattle.batch_core.specs.Command.{cause_of, effect_of}
use Rattle.batch_core.specs.Course.{Stand}
use Rattle.batch_core.specs.Batch.{BadCommand, first_bad, front_or_later}
use Rattle.batch_core.specs.Counts.{Counts, allocated_by, counts_of, pushed_by, total_of}
use Rattle.batch_core.specs.Room.{Passes, StaysWithin, cut_by}
use Rattle.batch_core.specs.declared.command.Cause.{Cause}
use Rattle.batch_core.specs.declared.command.Command.{Command}
use Rattle.batch_core.specs.declared.command.Command.TheVariants.{Push, Pop, Set, Alloc, Free, Put, Insert, Remove, Truncate}
use Rattle.batch_core.specs.declared.command.End.{End}
use Rattle.batch_core.specs.declared.command.End.TheVariants.{Commit, Abort}
use Rattle.batch_core.proofs.CountFacts.{if_none_then, ids_after, len-insert_most, values_after}
use Rattle.batch_core.proofs.CourseFacts.{cut_off, none_first}
use Rattle.batch_nest.specs.declared.nest.NestLine.{NestLine}
use Rattle.batch_nest.specs.Applied.{FitsNest}
use Rattle.batch_nest.specs.Counts.{CannotPassInNest, FitsNestByCounts, NestCountsAreEnough, NoneCanPassInNest, most_cut}
use Rattle.batch_nest.specs.Laws.{commands_among}
use Rattle.batch_nest.specs.Nest.{Body, body_of, done, then_command, then_inner, nest_course, nest_end, nest_lines}
use Rattle.batch_nest.proofs.CourseFacts.{count_stands}
use Rattle.batch_nest.proofs.LawFacts.{among-append, among-count}

-- what holds if there is no cause gives more, if there is none
if_none_known : (o : Option Cause) (P Q : Type 0) → (o ≡ None → P → Q) → IfNone o P → IfNone o Q
if_none_known None P Q more here = more refl here
if_none_known (Some cause) P Q more here = tt

first_good : (o : Option Cause) (later : Option BadCommand) → o ≡ None → later ≡ None → front_or_later o later ≡ None
first_good None None none good = refl
first_good None (Some bad) none good = absurd (cc)
first_good (Some cause) later none good = absurd (cc)

module _ {X : Type 0} where
  -- if what comes first stays within the room, and what follows does if none of it is bad, all does
  within_both : (room count : ℕ) (front stands : List (Stand X)) → StaysWithin room count front
      → (first_bad front ≡ None → StaysWithin room (count + cut_off front) stands) → StaysWithin room count (front ++ stands)
  within_both room count [] stands within later =
      let same : count + 0 ≡ count = omega arith in
      subst (λ k. StaysWithin room k stands) same (later refl)
  within_both room count (stand ∷ front) stands within later =
      let cut = cut_by stand.contents stand.command in
      let sum : count + (cut + cut_off front) ≡ (count + cut) + cut_off front = omega arith in
      if_none_known (cause_of stand.contents stand.command) _ _
      (λ none here. (
        here.0,
        within_both room (count + cut) front stands here.1
            (λ good. subst (λ k. StaysWithin room k stands) sum (later (first_good _ (first_bad front) none good))),
      )) within

  cut_off-append : (front stands : List (Stand X)) → cut_off (front ++ stands) ≡ cut_off front + cut_off stands
  cut_off-append [] stands = omega arith
  cut_off-append (stand ∷ front) stands = omega (arith, cut_off-append front stands)

  -- if none of all is bad, none of each part is
  good_both : (front stands : List (Stand X)) → first_bad (front ++ stands) ≡ None
      → (first_bad front ≡ None) × (first_bad stands ≡ None)
  good_both [] stands good = (refl, good)
  good_both (stand ∷ front) stands good =
      let cause = cause_of stand.contents stand.command in
      let parts = none_first cause (first_bad (front ++ stands)) good in
      let later = good_both front stands parts.1 in
      (first_good cause (first_bad front) parts.0 later.0, later.1)

  total-append : (count : Command X → ℕ) (front commands : List (Command X))
      → total_of count (front ++ commands) ≡ total_of count front + total_of count commands
  total-append count [] commands = omega arith
  total-append count (command ∷ front) commands = omega (arith, total-append count front commands)

  -- the commands of a body, in order
  abbrev commands_in : Body X → List (Command X)
  commands_in body = commands_among (nest_lines body)

  after_end : (ending : End) (lines : List (NestLine X)) → commands_among (nest_end ending ∷ lines) ≡ commands_among lines
  after_end Commit lines = refl
  after_end Abort lines = refl

  commands_in-inner : (inner : Body X) (ending : End) (later : Body X)
      → commands_in (then_inner inner ending later) ≡ commands_in inner ++ commands_in later
  commands_in-inner inner ending later =
      among-append (nest_lines inner) (nest_end ending ∷ nest_lines later)
      ∙ ap (λ commands. commands_in inner ++ commands) (after_end ending (nest_lines later))

  total-inner : (count : Command X → ℕ) (inner : Body X) (ending : End) (later : Body X)
      → total_of count (commands_in (then_inner inner ending later))
      ≡ total_of count (commands_in inner) + total_of count (commands_in later)
  total-inner count inner ending later =
      ap (total_of count) (commands_in-inner inner ending later) ∙ total-append count (commands_in inner) (commands_in later)

  cut_most : (most : ℕ) (c : Contents X) (command : Command X) → length c.list ≤ most → cut_by c command ≤ most_cut most command
  cut_most most c (Push value) long = omega arith
  cut_most most c Pop long = omega arith
  cut_most most c (Set at value) long = omega arith
  cut_most most c (Alloc value) long = omega arith
  cut_most most c (Free id) long = omega arith
  cut_most most c (Put id value) long = omega arith
  cut_most most c (Insert number) long = omega arith
  cut_most most c (Remove number) long = omega arith
  cut_most most c (Truncate kept) long = omega arith

  -- what a body with no bad command leaves and cuts off, at most, if its list never has more than so many values
  record LeavesAtMost (most : ℕ) (c : Contents X) (body : Body X) : Type 0 where
    pub values : length (nest_course c body).after.list ≤ length c.list + total_of pushed_by (commands_in body)
    pub ids : len (nest_course c body).after.live ≤ len c.live + total_of allocated_by (commands_in body)
    pub cut : cut_off (nest_course c body).stands ≤ total_of (most_cut most) (commands_in body)

  leaves : (most : ℕ) (c : Contents X) (body : Body X) → length c.list + total_of pushed_by (commands_in body) ≤ most
      → first_bad (nest_course c body).stands ≡ None → LeavesAtMost most c body
  leaves most c done few good = record { values = omega arith; ids = omega arith; cut = omega arith }
  leaves most c (then_command command later) few good =
      let parts = none_first (cause_of c command) (first_bad (nest_course (effect_of c command) later).stands) good in
      let values = values_after c command in
      let ids = ids_after c command parts.0 in
      let rest = leaves most (effect_of c command) later (omega (arith, values, few)) parts.1 in
      record {
        values = omega (arith, rest.values, values);
        ids = omega (arith, rest.ids, ids);
        cut = omega (arith, rest.cut, cut_most most c command (omega (arith, few)));
      }
  leaves most c (then_inner inner Commit later) few good =
      let first = nest_course c inner in
      let second = nest_course first.after later in
      let pushes = total-inner pushed_by inner Commit later in
      let parts = good_both first.stands second.stands good in
      let one = leaves most c inner (omega (arith, few, pushes)) parts.0 in
      let two = leaves most first.after later (omega (arith, few, pushes, one.values)) parts.1 in
      record {
        values = omega (arith, pushes, one.values, two.values);
        ids = omega (arith, total-inner allocated_by inner Commit later, one.ids, two.ids);
        cut = omega (arith, total-inner (most_cut most) inner Commit later, cut_off-append first.stands second.stands, one.cut, two.cut);
      }
  leaves most c (then_inner inner Abort later) few good =
      let first = nest_course c inner in
      let second = nest_course c later in
      let pushes = total-inner pushed_by inner Abort later in
      let parts = good_both first.stands second.stands good in
      let one = leaves most c inner (omega (arith, few, pushes)) parts.0 in
      let two = leaves most c later (omega (arith, few, pushes)) parts.1 in
      record {
        values = omega (arith, pushes, two.values);
        ids = omega (arith, total-inner allocated_by inner Abort later, two.ids);
        cut = omega (arith, total-inner (most_cut most) inner Abort later, cut_off-append first.stands second.stands, one.cut, two.cut);
      }

  none-append : (room : ℕ) (counts : Counts) (cut : ℕ) (front commands : List (Command X))
      → NoneCanPassInNest room counts cut (front ++ commands)
      → NoneCanPassInNest room counts cut front × NoneCanPassInNest room counts cut commands
  none-append room counts cut [] commands can = (tt, can)
  none-append room counts cut (command ∷ front) commands can =
      let later = none-append room counts cut front commands can.1 in
      ((can.0, later.0), later.1)

  none-inner : (room : ℕ) (counts : Counts) (cut : ℕ) (inner : Body X) (ending : End) (later : Body X)
      → NoneCanPassInNest room counts cut (commands_in (then_inner inner ending later))
      → NoneCanPassInNest room counts cut (commands_in inner) × NoneCanPassInNest room counts cut (commands_in later)
  none-inner room counts cut inner ending later can =
      none-append room counts cut (commands_in inner) (commands_in later)
      (subst (NoneCanPassInNest room counts cut) (commands_in-inner inner ending later) can)

  -- The counts are enough for what is held and for the body to come. So many commands, and values that were cut off, are counted for
  -- the records.
  record AreEnough (counts : Counts) (cut count : ℕ) (c : Contents X) (body : Body X) : Type 0 where
    pub values : length c.list + total_of pushed_by (commands_in body) ≤ counts.values
    pub ids : len c.live + total_of allocated_by (commands_in body) ≤ counts.ids
    pub records : count + total_of (most_cut counts.values) (commands_in body) ≤ counts.commands + cut

  -- a command that can't pass the room by counts that are enough doesn't
  stays_by_counts : (room : ℕ) (counts : Counts) (cut count : ℕ) (c : Contents X) (command : Command X) (later : Body X)
      → CannotPassInNest room counts cut command → AreEnough counts cut count c (then_command command later)
      → ¬ Passes room count c command
  stays_by_counts room counts cut count c (Push value) later can enough =
      λ passes. omega (arith, passes, can, enough.values, length-append c.list (value ∷ []))
  stays_by_counts room counts cut count c Pop later can enough = λ passes. passes
  stays_by_counts room counts cut count c (Set at value) later can enough = λ passes. passes
  stays_by_counts room counts cut count c (Alloc value) later can enough =
      λ passes. omega (arith, passes, can, enough.ids, len-insert_most c.live (next_id c.order) value)
  stays_by_counts room counts cut count c (Free id) later can enough = λ passes. passes
  stays_by_counts room counts cut count c (Put id value) later can enough = λ passes. passes
  stays_by_counts room counts cut count c (Insert number) later can enough = λ passes. omega (arith, passes, can)
  stays_by_counts room counts cut count c (Remove number) later can enough = λ passes. passes
  stays_by_counts room counts cut count c (Truncate kept) later can enough =
      λ passes. omega (arith, passes, can, enough.records, enough.values)

  within_by_counts : (room : ℕ) (counts : Counts) (cut count : ℕ) (c : Contents X) (body : Body X)
      → NoneCanPassInNest room counts cut (commands_in body) → AreEnough counts cut count c body
      → StaysWithin room count (nest_course c body).stands
  within_by_counts room counts cut count c done can enough = tt
  within_by_counts room counts cut count c (then_command command later) can enough =
      if_none_then (cause_of c command) (λ none. (
        stays_by_counts room counts cut count c command later can.0 enough,
        within_by_counts room counts cut (count + cut_by c command) (effect_of c command) later can.1 (record {
          values = omega (arith, enough.values, values_after c command);
          ids = omega (arith, enough.ids, ids_after c command none);
          records = omega (arith, enough.records, cut_most counts.values c command (omega (arith, enough.values)));
        }),
      ))
  within_by_counts room counts cut count c (then_inner inner Commit later) can enough =
      let first = nest_course c inner in
      let pushes = total-inner pushed_by inner Commit later in
      let allocations = total-inner allocated_by inner Commit later in
      let cuts = total-inner (most_cut counts.values) inner Commit later in
      let can_each = none-inner room counts cut inner Commit later can in
      let few : length c.list + total_of pushed_by (commands_in inner) ≤ counts.values = omega (arith, enough.values, pushes) in
      within_both room count first.stands (nest_course first.after later).stands
      (within_by_counts room counts cut count c inner can_each.0 (record {
        values = few;
        ids = omega (arith, enough.ids, allocations);
        records = omega (arith, enough.records, cuts);
      }))
      (λ good. let left = leaves counts.values c inner few good in
      within_by_counts room counts cut (count + cut_off first.stands) first.after later can_each.1 (record {
        values = omega (arith, enough.values, pushes, left.values);
        ids = omega (arith, enough.ids, allocations, left.ids);
        records = omega (arith, enough.records, cuts, left.cut);
      }))
  within_by_counts room counts cut count c (then_inner inner Abort later) can enough =
      let first = nest_course c inner in
      let pushes = total-inner pushed_by inner Abort later in
      let allocations = total-inner allocated_by inner Abort later in
      let cuts = total-inner (most_cut counts.values) inner Abort later in
      let can_each = none-inner room counts cut inner Abort later can in
      let few : length c.list + total_of pushed_by (commands_in inner) ≤ counts.values = omega (arith, enough.values, pushes) in
      within_both room count first.stands (nest_course c later).stands
      (within_by_counts room counts cut count c inner can_each.0 (record {
        values = few;
        ids = omega (arith, enough.ids, allocations);
        records = omega (arith, enough.records, cuts);
      }))
      (λ good. let left = leaves counts.values c inner few good in
      within_by_counts room counts cut (count + cut_off first.stands) c later can_each.1 (record {
        values = omega (arith, enough.values, pushes);
        ids = omega (arith, enough.ids, allocations);
        records = omega (arith, enough.records, cuts, left.cut);
      }))

  -- a nest that fits a room by its counts fits it
  fits_by_own_counts : (room : ℕ) (c : Contents X) (body : Body X) → FitsNestByCounts room c (nest_lines body) → FitsNest room c body
  fits_by_own_counts room c body fits =
      let commands = commands_in body in
      let counts = counts_of c commands in
      let counted = among-count (nest_lines body) in
      let long = count_stands c body in record {
        few = omega (arith, fits.0, counted);
        within = within_by_counts room counts (total_of (most_cut counts.values) commands) (length (nest_course c body).stands) c body
            fits.1 (record { values = omega arith; ids = omega arith; records = omega (arith, counted, long) });
      }

  pub nest_counts_are_enough : NestCountsAreEnough X
  nest_counts_are_enough room c lines known balanced is fits =
      fits_by_own_counts room c (body_of lines) (subst (FitsNestByCounts room c) (sym is ∙ balanced) fits)
