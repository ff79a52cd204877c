-- Counts that are enough for a batch stay enough from command to command.
use Rattle.std.proofs.Common.{⊎_elim, ◌≡◌, ℕ, ◌+◌, ◌-◌, ◌≤◌, List, [], ◌∷◌, length, Option, Some, None, refl, sym, subst, arith}
use Rattle.std.proofs.Common.{length-append, length-set, length-take}
use Rattle.std.specs.Prelude.{IfNone}
use Rattle.std.specs.Ordering.{nat_cmp}
use Rattle.std.specs.FinMap.{FinMap, insert, contains_key, len}
use Rattle.std.proofs.lemmas.Bool.{cases_Bool}
use Rattle.wic_slab.specs.Order.{next_id}
use Rattle.wic_base.proofs.MapFacts.{len-insert_new, len-insert_again, len-remove_key}
use Rattle.batch_core.specs.State.{Contents}
use Rattle.batch_core.specs.Command.{cause_of, effect_of}
use Rattle.batch_core.specs.Course.{batch_course}
use Rattle.batch_core.specs.Room.{cut_by, Passes, StaysWithin}
use Rattle.batch_core.specs.Counts.{Counts, pushed_by, allocated_by, total_of, CannotPass, NoneCanPass, FitsByCounts, CountsAreEnough}
use Rattle.batch_core.specs.declared.command.Command.{Command}
use Rattle.batch_core.specs.declared.command.Command.TheVariants.{Push, Pop, Set, Alloc, Free, Put, Insert, Remove, Truncate}
use Rattle.batch_core.proofs.BackFacts.{admitted}
use Rattle.batch_core.proofs.CourseFacts.{batch_course-length}

-- what holds if there is none
pub if_none_then : {A P : Type 0} (o : Option A) → (o ≡ None → P) → IfNone o P
if_none_then None p = p refl
if_none_then (Some x) p = tt

module _ {X : Type 0} where
  -- a value that is written makes at most one key more
  pub len-insert_most : (m : FinMap nat_cmp X) (k : ℕ) (v : X) → len (insert m k v) ≤ len m + 1
  len-insert_most m k v = ⊎_elim
      (λ there. omega (arith, len-insert_again m k v there))
      (λ new. omega (arith, len-insert_new m k v new))
      (cases_Bool (contains_key m k))

  -- The counts are enough for what is held and for the commands to come. So many commands, and values that were cut off, are counted
  -- for the records.
  record AreEnough (counts : Counts) (count : ℕ) (contents : Contents X) (commands : List (Command X)) : Type 0 where
    pub values : length contents.list + total_of pushed_by commands ≤ counts.values
    pub ids : len contents.live + total_of allocated_by commands ≤ counts.ids
    pub records : count + length contents.list + total_of pushed_by commands ≤ counts.commands + counts.values

  -- values cut off are gone from the list, and a push makes it one longer
  pub values_after : (c : Contents X) (command : Command X)
      → cut_by c command + length (effect_of c command).list ≤ length c.list + pushed_by command
  values_after c (Push value) = omega (arith, length-append c.list (value ∷ []))
  values_after c Pop = omega (arith, length-take (length c.list - 1) c.list)
  values_after c (Set at value) = omega (arith, length-set c.list at value)
  values_after c (Alloc value) = omega arith
  values_after c (Free id) = omega arith
  values_after c (Put id value) = omega arith
  values_after c (Insert number) = omega arith
  values_after c (Remove number) = omega arith
  values_after c (Truncate kept) = omega (arith, length-take kept c.list)

  -- an admitted command leaves at most as many ids as it found, and one more if it allocates
  pub ids_after : (c : Contents X) (command : Command X) → cause_of c command ≡ None
      → len (effect_of c command).live ≤ len c.live + allocated_by command
  ids_after c (Push value) none = omega arith
  ids_after c Pop none = omega arith
  ids_after c (Set at value) none = omega arith
  ids_after c (Alloc value) none = len-insert_most c.live (next_id c.order) value
  ids_after c (Free id) none = omega (arith, len-remove_key c.live id (admitted _ _ none))
  ids_after c (Put id value) none = omega (arith, len-insert_again c.live id value (admitted _ _ none))
  ids_after c (Insert number) none = omega arith
  ids_after c (Remove number) none = omega arith
  ids_after c (Truncate kept) none = omega arith

  -- a command that can't pass the room by counts that are enough doesn't
  stays_by_counts : (room : ℕ) (counts : Counts) (count : ℕ) (c : Contents X) (command : Command X) (commands : List (Command X))
      → CannotPass room counts command → AreEnough counts count c (command ∷ commands) → ¬ Passes room count c command
  stays_by_counts room counts count c (Push value) commands can enough =
      λ passes. omega (arith, passes, can, enough.values, length-append c.list (value ∷ []))
  stays_by_counts room counts count c Pop commands can enough = λ passes. passes
  stays_by_counts room counts count c (Set at value) commands can enough = λ passes. passes
  stays_by_counts room counts count c (Alloc value) commands can enough =
      λ passes. omega (arith, passes, can, enough.ids, len-insert_most c.live (next_id c.order) value)
  stays_by_counts room counts count c (Free id) commands can enough = λ passes. passes
  stays_by_counts room counts count c (Put id value) commands can enough = λ passes. passes
  stays_by_counts room counts count c (Insert number) commands can enough = λ passes. omega (arith, passes, can)
  stays_by_counts room counts count c (Remove number) commands can enough = λ passes. passes
  stays_by_counts room counts count c (Truncate kept) commands can enough =
      λ passes. omega (arith, passes, can, enough.records)

  -- after an admitted command the counts are enough for the others
  enough_after : (counts : Counts) (count : ℕ) (c : Contents X) (command : Command X) (commands : List (Command X))
      → cause_of c command ≡ None → AreEnough counts count c (command ∷ commands)
      → AreEnough counts (count + cut_by c command) (effect_of c command) commands
  enough_after counts count c command commands none enough = record {
    values = omega (arith, enough.values, values_after c command);
    ids = omega (arith, enough.ids, ids_after c command none);
    records = omega (arith, enough.records, values_after c command);
  }

  within_by_counts : (room : ℕ) (counts : Counts) (count : ℕ) (c : Contents X) (commands : List (Command X))
      → NoneCanPass room counts commands → AreEnough counts count c commands → StaysWithin room count (batch_course c commands).stands
  within_by_counts room counts count c [] can enough = tt
  within_by_counts room counts count c (command ∷ commands) can enough = if_none_then (cause_of c command) (λ none. (
    stays_by_counts room counts count c command commands can.0 enough,
    within_by_counts room counts (count + cut_by c command) (effect_of c command) commands can.1
        (enough_after counts count c command commands none enough),
  ))

  -- a batch that fits a room by its counts fits it
  pub counts_are_enough : CountsAreEnough X
  counts_are_enough room c batch known is counted =
      let commands = batch.commands.items in
      let fits = subst (FitsByCounts room c) (sym is) counted in
      let long = batch_course-length c commands in record {
        few = fits.0;
        within = subst (λ n. StaysWithin room n (batch_course c commands).stands) (sym long)
            (within_by_counts room _ (length commands) c commands fits.1
            (record { values = omega arith; ids = omega arith; records = omega arith }));
      }
