-- Each line of a batch is a word with up to two numbers, and what was read begins a script.
use Rattle.std.proofs.Common.{◌≡◌, ℕ, ◌<◌, ◌≤◌, false, List, [], ◌∷◌, ◌++◌, length, map, refl, ap, arith, append_assoc, append-nil}
use Rattle.std.specs.Prelude.{Option, Some, None, codes}
use Rattle.std.specs.List.{AllByRecursion}
use Rattle.std.proofs.lemmas.List.Concat.{flat_map-append}
use Rattle.batch_core.specs.declared.command.Command.{Command}
use Rattle.batch_core.specs.declared.command.Command.TheVariants.{Push, Pop, Set, Alloc, Free, Put, Insert, Remove, Truncate}
use Rattle.batch_core.specs.declared.command.End.TheVariants.{Commit}
use Rattle.batch_script.specs.declared.parser.Reading.{Reading}
use Rattle.batch_script.specs.Machine.{ItemOf, batch}
use Rattle.batch_script.specs.Front.{has_feed}
use Rattle.batch_script.specs.Grammar.{Line, IsOpen, IsValidCommand, batch_printing, command_line, end_line, numbers_of, word_of}
use Rattle.batch_script.specs.Grammar.{Printing, IsOpenOver, IsValidItemOver, all_lines_over, printed_over}
use Rattle.batch_script.specs.Reading.{AreReadOver, CanEnd, HasPartsThroughout, HasRead, HasSomeParts, begun_in, has_space, plain_items}

-- P holds of each element of xs ++ ys if it holds of each of xs and each of ys
pub AllByRecursion-append : {X : Type 0} (P : X → Type 0) (xs ys : List X) → AllByRecursion P xs → AllByRecursion P ys
    → AllByRecursion P (xs ++ ys)
AllByRecursion-append P [] ys h k = k
AllByRecursion-append P (x ∷ xs) ys h k = (h.0, AllByRecursion-append P xs ys h.1 k)

-- In the word of a command stand no space and no line feed, at most two numbers follow it, and its line isn't empty.
pub command_facts : (command : Command ℕ) → (has_space (word_of command) ≡ false) × (has_feed (word_of command) ≡ false)
    × (length (numbers_of command) ≤ 2) × (0 < length (command_line command))
command_facts (Push value) = (refl, refl, omega arith, omega arith)
command_facts Pop = (refl, refl, omega arith, omega arith)
command_facts (Set at value) = (refl, refl, omega arith, omega arith)
command_facts (Alloc value) = (refl, refl, omega arith, omega arith)
command_facts (Free id) = (refl, refl, omega arith, omega arith)
command_facts (Put id value) = (refl, refl, omega arith, omega arith)
command_facts (Insert number) = (refl, refl, omega arith, omega arith)
command_facts (Remove number) = (refl, refl, omega arith, omega arith)
command_facts (Truncate kept) = (refl, refl, omega arith, omega arith)

-- the word of a command has no space
pub one_word : (command : Command ℕ) → has_space (word_of command) ≡ false
one_word command = (command_facts command).0

-- and at most two numbers follow it
pub few_numbers : (command : Command ℕ) → length (numbers_of command) ≤ 2
few_numbers command = (command_facts command).2

-- what is printed line by line has a word with up to two numbers in each line, if each line has
pub all_have_parts : {X : Type 0} (IsValid : X → Type 0) (print : X → Line) → ((x : X) → IsValid x → HasSomeParts (print x))
    → (xs : List X) → AllByRecursion IsValid xs → AllByRecursion HasSomeParts (map print xs)
all_have_parts IsValid print parts [] valid = tt
all_have_parts IsValid print parts (x ∷ xs) valid = (parts x valid.0, all_have_parts IsValid print parts xs valid.1)

-- a valid command has them
pub command_has_parts : (command : Command ℕ) → IsValidCommand command → HasSomeParts (command_line command)
command_has_parts command valid = (
  word_of command,
  numbers_of command,
  few_numbers command,
  record { is_word = one_word command; writable = valid; same = refl },
)

-- so each line of a batch has
pub batches_have_parts : HasPartsThroughout batch_printing
batches_have_parts = all_have_parts IsValidCommand command_line command_has_parts

-- what was read begins a script, if what has begun can end
pub begins_over : {B O : Type 0} (printing : Printing B) (opened : Printing O) → CanEnd printing opened
    → (items : List (ItemOf B)) (begun : Option O) (lines : List Line) → AreReadOver printing opened items begun lines
    → IsOpenOver printing lines
begins_over printing opened can items None lines was = (items, [], was.valid_items, rw was.same (simp append-nil))
begins_over printing opened can items (Some begun) lines was =
    let ended = can begun was.valid_open in
    let more = batch ended.0 ended.1 ∷ [] in (
      items ++ more,
      ended.2,
      AllByRecursion-append (IsValidItemOver printing) items more was.valid_items (ended.3, tt),
      rw (was.same, flat_map-append (printed_over printing) items more)
          (simp (append_assoc, append-nil) (ap (λ lines. all_lines_over printing items ++ codes "begin" ∷ lines) ended.4)),
    )

-- a batch that has begun can
batches_can_end : CanEnd batch_printing batch_printing
batches_can_end commands valid = (commands, Commit, end_line Commit ∷ [], valid, refl)

-- what was read of a script of batches begins one
pub begins_script : (reading : Reading) (lines : List Line) → HasRead reading lines → IsOpen lines
begins_script reading lines =
    begins_over batch_printing batch_printing batches_can_end (plain_items reading.items.items) (begun_in reading) lines
