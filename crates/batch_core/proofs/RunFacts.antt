-- A batch, command after command.
use Rattle.std.proofs.Common.{◌≡◌, ℕ, zero, suc, ◌+◌, ◌-◌, ◌<◌, ◌≤◌, List, [], ◌∷◌, ◌++◌, length, take, Option, Some, None, refl, sym, ap}
use Rattle.std.proofs.Common.{⊎_elim, ◌⊎◌, inl, inr, subst, ◌∙◌, arith, length-append, length-set, length-take}
use Rattle.std.specs.Prelude.{slice_get, IfErr}
use Rattle.std.specs.declared.result.Result.{Result}
use Rattle.std.specs.declared.result.Result.TheVariants.{Ok, Err}
use Rattle.std.specs.Option.{option_map}
use Rattle.std.specs.Ordering.{nat_cmp}
use Rattle.std.specs.FinMap.{FinMap, get, len}
use Rattle.std.specs.FinSet.{FinSet}
use Rattle.wic_slab.specs.Order.{Order}
use Rattle.wic_base.specs.Sets.{AllBelow}
use Rattle.wic_base.proofs.MapFacts.{len-insert_again, len-remove_key}
use Rattle.batch_core.specs.State.{Contents, IsSound}
use Rattle.batch_core.specs.Command.{made_of, last_value, cause_of, effect_of, records_of}
use Rattle.batch_core.specs.Back.{Capacities, Grows, IsWithin, undo_all}
use Rattle.batch_core.specs.Course.{Stand, Course, led_by}
use Rattle.batch_core.specs.Batch.{BadCommand, Outcome, later_by, front_or_later, first_bad, unless_bad, ended}
use Rattle.batch_core.specs.Batch.{outcome_of, committed, aborted, refused}
use Rattle.batch_core.specs.Room.{cut_by, Passes, StaysWithin, Fits}
use Rattle.batch_core.specs.Workspace.{Workspace, IsOom, IsReady, IsDone, HasRoom, IsCauseOf, KeepsWithin}
use Rattle.batch_core.specs.Applied.{IsShort, RefusedFor, IsApplied}
use Rattle.batch_core.specs.declared.answer.Done.{Done}
use Rattle.batch_core.specs.declared.answer.Done.TheVariants.{Committed, Aborted}
use Rattle.batch_core.specs.declared.answer.Refusal.{Refusal}
use Rattle.batch_core.specs.declared.command.Cause.{Cause}
use Rattle.batch_core.specs.declared.command.Cause.TheVariants.{Empty, Position, Vacant, Full, TooLarge, Oom}
use Rattle.batch_core.specs.declared.command.Command.{Command}
use Rattle.batch_core.specs.declared.command.Command.TheVariants.{Push, Pop, Set, Alloc, Free, Put, Insert, Remove, Truncate}
use Rattle.batch_core.specs.declared.command.End.{End}
use Rattle.batch_core.specs.declared.command.End.TheVariants.{Commit, Abort}
use Rattle.batch_core.specs.declared.record.Record.{Record}
use Rattle.batch_core.specs.declared.record.Record.TheVariants.{Popped, Replaced, Freed, Put as Overwritten}
use Rattle.wic_base.proofs.SetFacts.{was_before_remove}
use Rattle.batch_core.proofs.SetFacts.{below-insert}
use Rattle.batch_core.proofs.CourseFacts.{cut_off, cut_off-more, first_bad-append, first_bad-more, within-more, within-take, take-front}
use Rattle.batch_core.proofs.CourseFacts.{after_front, after_front-led}
use Rattle.batch_core.proofs.BackFacts.{admitted, count_cuts, undo_all-append, undoing_goes_back}

not_at_most : (a b : ℕ) → (¬ (a ≤ b)) → b < a
not_at_most a b stays = omega arith

-- what isn't above a is at most a
pub not_beyond : (a b : ℕ) → (¬ (a < b)) → b ≤ a
not_beyond a b stays = omega arith

refused_here : (o : Option Cause) (cause : Cause) (n at : ℕ) (later : Option BadCommand) → o ≡ Some cause → at ≡ n + 1
    → option_map (later_by n) (front_or_later o later) ≡ Some (record { cause = cause; at = at })
refused_here o cause n at later is next =
    ap (λ x. option_map (later_by n) (front_or_later x later)) is
    ∙ ap (λ k. Some (record { cause = cause; at = k })) (sym next)

module _ {X : Type 0} where
  count_made : (o : Option X) (made : X → Record X) → length (made_of o made) ≤ 1
  count_made None made = omega arith
  count_made (Some old) made = omega arith

  -- a command leaves a record, and one more for each value that it cuts off
  pub count_records : (c : Contents X) (command : Command X) → length (records_of c command) ≤ cut_by c command + 1
  count_records c (Push value) = omega arith
  count_records c Pop = omega (arith, count_made (last_value c.list) Popped)
  count_records c (Set at value) = omega (arith, count_made (slice_get c.list at) (Replaced at))
  count_records c (Alloc value) = omega arith
  count_records c (Free id) = omega (arith, count_made (get c.live id) (Freed id))
  count_records c (Put id value) = omega (arith, count_made (get c.live id) (Overwritten id))
  count_records c (Insert number) = omega arith
  count_records c (Remove number) = omega arith
  count_records c (Truncate kept) = omega (arith, count_cuts c kept)

  -- what is counted for the records stays within their capacity
  pub count_stays : (s : Workspace X) (command : Command X) (count : ℕ) → IsReady s → (¬ Passes s.room count s.contents command)
      → count ≤ s.capacities.records → count + cut_by s.contents command ≤ s.capacities.records
  count_stays s (Push value) count ready stays room = omega arith
  count_stays s Pop count ready stays room = omega arith
  count_stays s (Set at value) count ready stays room = omega arith
  count_stays s (Alloc value) count ready stays room = omega arith
  count_stays s (Free id) count ready stays room = omega arith
  count_stays s (Put id value) count ready stays room = omega arith
  count_stays s (Insert number) count ready stays room = omega arith
  count_stays s (Remove number) count ready stays room = omega arith
  count_stays s (Truncate kept) count ready stays room = omega (arith, not_beyond s.room _ stays, ready.records)

  -- another list, set or table within the capacities
  with_list : {w : Capacities} {c : Contents X} (l : List X) → IsWithin w c → length l ≤ w.list → IsWithin w (record c { list = l })
  with_list l within room = record { list = room; set = within.set; table = within.table }

  with_set : {w : Capacities} {c : Contents X} (s : FinSet nat_cmp) → IsWithin w c → AllBelow w.set s → IsWithin w (record c { set = s })
  with_set s within room = record { list = within.list; set = room; table = within.table }

  with_table : {w : Capacities} {c : Contents X} (live : FinMap nat_cmp X) (order : Order) → IsWithin w c → len live ≤ w.table
      → IsWithin w (record c { live = live; order = order })
  with_table live order within room = record { list = within.list; set = within.set; table = room }

  -- an admitted command that doesn't pass the room keeps list, set and table within the capacities
  effect_within : (s : Workspace X) (command : Command X) (count : ℕ) → IsReady s → IsWithin s.capacities s.contents
      → cause_of s.contents command ≡ None → (¬ Passes s.room count s.contents command)
      → IsWithin s.capacities (effect_of s.contents command)
  effect_within s (Push value) count ready within none stays = with_list _ within (omega (arith, not_beyond s.room _ stays, ready.list))
  effect_within s Pop count ready within none stays =
      with_list _ within (omega (arith, length-take (length s.contents.list - 1) s.contents.list, within.list))
  effect_within s (Set at value) count ready within none stays =
      with_list _ within (omega (arith, length-set s.contents.list at value, within.list))
  effect_within s (Alloc value) count ready within none stays =
      with_table _ _ within (omega (arith, not_beyond s.room _ stays, ready.table))
  effect_within s (Free id) count ready within none stays =
      with_table _ _ within (omega (arith, len-remove_key s.contents.live id (admitted _ _ none), within.table))
  effect_within s (Put id value) count ready within none stays =
      with_table _ _ within (omega (arith, len-insert_again s.contents.live id value (admitted _ _ none), within.table))
  effect_within s (Insert number) count ready within none stays =
      with_set _ within (below-insert s.contents.set number s.capacities.set within.set
      (omega (arith, not_at_most s.room number stays, ready.set)))
  effect_within s (Remove number) count ready within none stays =
      with_set _ within (λ q member. within.set q (was_before_remove s.contents.set number q member))
  effect_within s (Truncate kept) count ready within none stays =
      with_list _ within (omega (arith, length-take kept s.contents.list, within.list))

  -- so it has room, and is never refused for memory
  pub has_room : (s : Workspace X) (command : Command X) (count : ℕ) → IsReady s → IsWithin s.capacities s.contents
      → cause_of s.contents command ≡ None → (¬ Passes s.room count s.contents command) → length s.records + 1 ≤ count
      → count ≤ s.capacities.records → HasRoom s command
  has_room s command count ready within none stays few room =
      let effect = effect_within s command count ready within none stays in record {
        list = effect.list;
        set = effect.set;
        table = effect.table;
        records = omega (arith, count_records s.contents command, count_stays s command count ready stays room, few);
      }

  -- how far a course has come from the first workspace: so many commands are done, which led to this workspace, and this course is
  -- to come
  pub record IsAlong (whole : Course X) (first now : Workspace X) (later : Course X) (at : ℕ) : Type 0 where
    -- the commands that are done
    pub front : List (Stand X)
    -- the whole course is these and the records so far, and then the later course
    pub course : whole ≡ after_front front now.records later
    -- this is the number of commands that are done
    pub count : at ≡ length front
    -- none of them is bad
    pub good : first_bad front ≡ None
    -- there is at most a record for each, and one more for each value that they cut off
    pub few : length now.records ≤ length front + cut_off front
    -- if they stay within the room, all commands and the values cut off are at most the capacity for records
    pub counted : StaysWithin first.room (length whole.stands) front → length whole.stands + cut_off front ≤ now.capacities.records
    -- undoing the records so far gives the contents at first
    pub back : undo_all now.records now.contents ≡ first.contents
    -- the room is as at first
    pub room : now.room ≡ first.room
    -- no capacity is lower than at first
    pub grows : Grows first.capacities now.capacities

  -- a course begins, if there are no records yet and the capacity is for all its commands
  pub along_start : (whole : Course X) (first : Workspace X) → first.records ≡ [] → length whole.stands ≤ first.capacities.records
      → IsAlong whole first first whole 0
  along_start whole first none room = record {
    front = [];
    course = ap (λ l. after_front [] l whole) (sym none);
    count = refl;
    good = refl;
    few = omega (arith, ap length none);
    counted = λ within. omega (arith, room);
    back = ap (λ l. undo_all l first.contents) none;
    room = refl;
    grows = record { list = omega arith; set = omega arith; table = omega arith; records = omega arith };
  }

  -- one command further
  pub along_step : (whole : Course X) (first now next : Workspace X) (command : Command X) (later : Contents X → Course X) (at : ℕ)
      → IsAlong whole first now (led_by now.contents command (later (effect_of now.contents command))) at → IsReady now
      → IsSound now.contents → cause_of now.contents command ≡ None → IsDone now command next → next.room ≡ now.room
      → Grows now.capacities next.capacities → IsAlong whole first next (later next.contents) (at + 1)
  along_step whole first now next command later at along ready sound none took room grows =
      let stand : Stand X = record { contents = now.contents; command = command } in
      let longer : length (along.front ++ stand ∷ []) ≡ length along.front + 1 = length-append along.front (stand ∷ []) in
      let cut = cut_off-more along.front stand in
      let added = records_of now.contents command in
      let count_added : length next.records ≡ length now.records + length added = ap length took.records
      ∙ length-append now.records added in record {
        front = along.front ++ stand ∷ [];
        course = along.course
            ∙ after_front-led along.front now.records now.contents command (later (effect_of now.contents command))
            ∙ (λ i. after_front (along.front ++ stand ∷ []) (sym took.records i) (later (sym took.effect i)));
        count = omega (arith, along.count, longer);
        good = first_bad-more along.front stand along.good none;
        few = omega (arith, along.few, count_added, count_records now.contents command, longer, cut);
        counted = λ within.
            let parts = within-more first.room (length whole.stands) along.front stand along.good none within in
            let count = length whole.stands + cut_off along.front in
            let stays = subst (λ r. ¬ Passes r count now.contents command) (sym along.room) parts.1 in
            let enough = count_stays now command count ready stays (along.counted parts.0) in
            omega (arith, enough, grows.records, cut);
        back = ap (λ l. undo_all l next.contents) took.records ∙ undo_all-append now.records added next.contents
            ∙ ap (undo_all now.records) (ap (undo_all added) took.effect ∙ undoing_goes_back now.contents command sound none)
            ∙ along.back;
        room = room ∙ along.room;
        grows = record {
          list = omega (arith, along.grows.list, grows.list);
          set = omega (arith, along.grows.set, grows.set);
          table = omega (arith, along.grows.table, grows.table);
          records = omega (arith, along.grows.records, grows.records);
        };
      }

  bad_here : (whole : Course X) (first now : Workspace X) (command : Command X) (later : Course X) (ending : End) (at : ℕ) (cause : Cause)
      → IsAlong whole first now (led_by now.contents command later) at → cause_of now.contents command ≡ Some cause
      → outcome_of first.contents whole ending ≡ (refused (record { cause = cause; at = at + 1 }), first.contents)
  bad_here whole first now command later ending at cause along is =
      let bad : first_bad whole.stands ≡ Some (record { cause = cause; at = at + 1 }) =
      ap (λ course. first_bad course.stands) along.course
      ∙ first_bad-append along.front (record { contents = now.contents; command = command } ∷ later.stands) along.good
      ∙ refused_here (cause_of now.contents command) cause (length along.front) (at + 1) (first_bad later.stands) is
      (omega (arith, along.count)) in
      ap (λ o. unless_bad o first.contents (ended first.contents whole ending)) bad

  short_here : (places : ℕ) (whole : Course X) (first now : Workspace X) (command : Command X) (later : Course X) (at : ℕ)
      → IsAlong whole first now (led_by now.contents command later) at → IsReady now → IsWithin now.capacities now.contents
      → cause_of now.contents command ≡ None → (¬ HasRoom now command) → IsShort first.room places whole.stands (suc at)
  short_here places whole first now command later at along ready within none no_room =
      let stand : Stand X = record { contents = now.contents; command = command } in
      let stands = ap (λ course. course.stands) along.course in
      let long : length whole.stands ≡ length along.front + length (stand ∷ later.stands) =
      ap length stands ∙ length-append along.front (stand ∷ later.stands) in
      let front : take (suc at) whole.stands ≡ along.front ++ stand ∷ [] =
      ap (take (suc at)) stands ∙ take-front along.front stand later.stands (suc at) (omega (arith, along.count)) in (
        omega (arith, long, along.count),
        ap first_bad front ∙ first_bad-more along.front stand along.good none,
        λ stays_within.
            let count = length whole.stands + cut_off along.front in
            let parts = within-more first.room (length whole.stands) along.front stand along.good none
            (subst (StaysWithin first.room (length whole.stands)) front stays_within) in
            let stays = subst (λ r. ¬ Passes r count now.contents command) (sym along.room) parts.1 in
            let few : length now.records + 1 ≤ count = omega (arith, along.few, long) in
            no_room (has_room now command count ready within none stays few (along.counted parts.0)),
      )

  -- the command that isn't done refuses the batch, whatever places it needed to begin
  pub along_refused : (places : ℕ) (whole : Course X) (first now : Workspace X) (command : Command X) (later : Course X) (ending : End)
      (at : ℕ) (cause : Cause) → IsAlong whole first now (led_by now.contents command later) at → IsReady now
      → IsWithin now.capacities now.contents → IsCauseOf now command cause
      → RefusedFor first.room places first.contents whole ending cause (at + 1)
  along_refused places whole first now command later ending at Empty along ready within is =
      bad_here whole first now command later ending at Empty along is
  along_refused places whole first now command later ending at Position along ready within is =
      bad_here whole first now command later ending at Position along is
  along_refused places whole first now command later ending at Vacant along ready within is =
      bad_here whole first now command later ending at Vacant along is
  along_refused places whole first now command later ending at Full along ready within is =
      bad_here whole first now command later ending at Full along is
  along_refused places whole first now command later ending at TooLarge along ready within is =
      bad_here whole first now command later ending at TooLarge along is
  along_refused places whole first now command later ending at (Oom size) along ready within is =
      let next : suc at ≡ at + 1 = omega arith in
      subst (IsShort first.room places whole.stands) next (short_here places whole first now command later at along ready within is.0 is.1)

  -- what fits the room is never short of it
  pub short_beyond : (room places : ℕ) (stands : List (Stand X)) (at : ℕ) → IsShort room places stands at → ¬ Fits room places stands
  short_beyond room places stands zero short = λ fits. omega (arith, short, fits.few)
  short_beyond room places stands (suc before) short =
      λ fits. short.2 (within-take room (length stands) stands (suc before) fits.within)

  -- a course from contents that fits the room fits it if room and contents are the same
  pub fits_kept : {room other : ℕ} {c d : Contents X} (places : ℕ) (course : Contents X → Course X) → room ≡ other → c ≡ d
      → Fits other places (course d).stands → Fits room places (course c).stands
  fits_kept {room} {other} {c} {d} places course same_room same fits =
      subst (λ r. Fits r places (course c).stands) (sym same_room) (subst (λ k. Fits other places (course k).stands) (sym same) fits)

  -- a course from contents that is refused is refused so for the same room and contents
  pub refused_kept : {room other : ℕ} {c d : Contents X} (places : ℕ) (course : Contents X → Course X) (ending : End) (cause : Cause)
      (at : ℕ) → room ≡ other → c ≡ d → RefusedFor room places c (course c) ending cause at
      → RefusedFor other places d (course d) ending cause at
  refused_kept {room} {other} {c} {d} places course ending cause at same_room same was =
      subst (λ r. RefusedFor r places d (course d) ending cause at) same_room
      (subst (λ k. RefusedFor room places k (course k) ending cause at) same was)

  -- a refusal is for memory, or the outcome is the refusal of this command
  refused_cases : (room places : ℕ) (c : Contents X) (course : Course X) (ending : End) (cause : Cause) (at : ℕ)
      → RefusedFor room places c course ending cause at
      → (IsOom cause × IsShort room places course.stands at)
      ⊎ ((¬ IsOom cause) × (outcome_of c course ending ≡ (refused (record { cause = cause; at = at }), c)))
  refused_cases room places c course ending Empty at is = inr ((λ oom. oom), is)
  refused_cases room places c course ending Position at is = inr ((λ oom. oom), is)
  refused_cases room places c course ending Vacant at is = inr ((λ oom. oom), is)
  refused_cases room places c course ending Full at is = inr ((λ oom. oom), is)
  refused_cases room places c course ending TooLarge at is = inr ((λ oom. oom), is)
  refused_cases room places c course ending (Oom size) at is = inl (tt, is)

  -- a batch that fits the room isn't refused for memory
  pub never_refused : (room places : ℕ) (c : Contents X) (course : Course X) (ending : End) (cause : Cause) (at : ℕ)
      → RefusedFor room places c course ending cause at → Fits room places course.stands → ¬ IsOom cause
  never_refused room places c course ending cause at is fits = ⊎_elim
      (λ short. absurd (short_beyond room places course.stands at short.1 fits))
      (λ bad. bad.0)
      (refused_cases room places c course ending cause at is)

  -- a batch that isn't refused for memory leaves what its outcome says
  pub applied_contents : (old new : Workspace X) (places : ℕ) (course : Course X) (ending : End) (result : Result Done Refusal)
      → IsApplied old places course ending result new → IfErr result (λ refusal. ¬ IsOom refusal.cause)
      → new.contents ≡ (outcome_of old.contents course ending).1
  applied_contents old new places course ending (Ok Committed) applied found = sym (ap (λ p. p.1) applied)
  applied_contents old new places course ending (Ok Aborted) applied found = sym (ap (λ p. p.1) applied.0)
  applied_contents old new places course ending (Err refusal) applied found =
      applied.0 ∙ ⊎_elim
      (λ short. absurd (found short.0))
      (λ bad. sym (ap (λ p. p.1) bad.1))
      (refused_cases old.room places old.contents course ending refusal.cause refusal.at applied.2)

  not_refused : (c : Contents X) (course : Course X) (ending : End) (bad : BadCommand) → ended c course ending ≡ (refused bad, c) → ⊥
  not_refused c course Commit bad same = let differ : committed course.records ≡ refused bad = ap (λ p. p.0) same in cc
  not_refused c course Abort bad same = let differ : ◌≡◌ {A = Outcome X} aborted (refused bad) = ap (λ p. p.0) same in cc

  -- a course with no bad command isn't refused for one
  pub bad_refused : (c : Contents X) (course : Course X) (ending : End) (bad : BadCommand)
      → outcome_of c course ending ≡ (refused bad, c) → first_bad course.stands ≡ None → ⊥
  bad_refused c course ending bad is none =
      not_refused c course ending bad (sym (ap (λ o. unless_bad o c (ended c course ending)) none) ∙ is)

  -- a batch that fits the room and has no bad command isn't refused
  pub never_refused_at_all : (room places : ℕ) (c : Contents X) (course : Course X) (ending : End) (cause : Cause) (at : ℕ)
      → RefusedFor room places c course ending cause at → Fits room places course.stands → first_bad course.stands ≡ None → ⊥
  never_refused_at_all room places c course ending cause at is fits none = ⊎_elim
      (λ short. short_beyond room places course.stands at short.1 fits)
      (λ bad. bad_refused c course ending _ bad.1 none)
      (refused_cases room places c course ending cause at is)

  -- an admitted command that keeps within the room has room
  pub step_has_room : (s : Workspace X) (command : Command X) → IsReady s → IsWithin s.capacities s.contents
      → cause_of s.contents command ≡ None → KeepsWithin s command → HasRoom s command
  step_has_room s command ready within none keeps =
      let few = keeps.few in
      has_room s command (length s.records + 1) ready within none keeps.within (omega arith) (omega (arith, few, ready.records))
