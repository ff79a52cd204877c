-- Rooms, one larger than the other.
use Rattle.std.proofs.Common.{ℕ, ◌+◌, ◌≤◌, List, [], ◌∷◌, length, arith}
use Rattle.batch_core.specs.State.{Contents}
use Rattle.batch_core.specs.Command.{cause_of}
use Rattle.batch_core.specs.Course.{Stand}
use Rattle.batch_core.specs.Room.{cut_by, Passes, StaysWithin}
use Rattle.batch_core.specs.Many.{FitsLargerRoomsOver}
use Rattle.batch_core.specs.declared.command.Command.{Command}
use Rattle.batch_core.specs.declared.command.Command.TheVariants.{Push, Pop, Set, Alloc, Free, Put, Insert, Remove, Truncate}
use Rattle.batch_core.proofs.CourseFacts.{if_none_more}

module _ {X : Type 0} where
  -- what passes the larger room passes the smaller one
  passes_smaller : (room larger count : ℕ) (c : Contents X) (command : Command X) → room ≤ larger → Passes larger count c command
      → Passes room count c command
  passes_smaller room larger count c (Push value) more passes = omega arith
  passes_smaller room larger count c Pop more passes = passes
  passes_smaller room larger count c (Set at value) more passes = passes
  passes_smaller room larger count c (Alloc value) more passes = omega arith
  passes_smaller room larger count c (Free id) more passes = passes
  passes_smaller room larger count c (Put id value) more passes = passes
  passes_smaller room larger count c (Insert number) more passes = omega arith
  passes_smaller room larger count c (Remove number) more passes = passes
  passes_smaller room larger count c (Truncate kept) more passes = omega arith

  within_larger : (room larger count : ℕ) (stands : List (Stand X)) → room ≤ larger → StaysWithin room count stands
      → StaysWithin larger count stands
  within_larger room larger count [] more within = tt
  within_larger room larger count (stand ∷ stands) more within =
      if_none_more (cause_of stand.contents stand.command) _ _
      (λ here. (
        λ passes. here.0 (passes_smaller room larger count stand.contents stand.command more passes),
        within_larger room larger (count + cut_by stand.contents stand.command) stands more here.1,
      )) within

  -- what fits a room fits each larger room
  pub fits_larger : FitsLargerRoomsOver X
  fits_larger room larger places stands more fits = record {
    few = omega (arith, fits.few, more);
    within = within_larger room larger (length stands) stands more fits.within;
  }
