-- Scripts that are made of two numbers.
use Rattle.std.specs.Prelude.{ℕ, zero, suc, ◌+◌, ◌*◌, ◌^◌, ◌/◌, ◌%◌, nat_lt, if◌then◌else◌, List, ◌∷◌, map}
use Rattle.std.specs.List.{range_with_len}
use Rattle.batch_core.specs.declared.command.Command.{Command}
use Rattle.batch_core.specs.declared.command.Command.TheVariants.{Push, Pop, Set, Alloc, Free, Put, Insert, Remove}
use Rattle.batch_core.specs.declared.command.End.{End}
use Rattle.batch_core.specs.declared.command.End.TheVariants.{Commit, Abort}
use Rattle.batch_script.specs.Machine.{PlainItem, reserve, batch}

-- each number is followed by this one
abbrev pub next_number : ℕ → ℕ
next_number number = (number * 6364136223846793005 + 1442695040888963407) % 2 ^ 64

-- the number that so many draws after this one lead to
abbrev pub number_after : ℕ → ℕ → ℕ
number_after zero number = number
number_after (suc draws) number = next_number (number_after draws number)

-- what the draw behind so many others answers: the number that it leads to, without its last 33 bits
abbrev pub draw : ℕ → ℕ → ℕ
draw place number = number_after (place + 1) number / 2 ^ 33

-- the command of three draws: the first tells which, the second a place, an id or a member, and the third a value
abbrev pub command_of_draws : ℕ → ℕ → ℕ → Command ℕ
command_of_draws kind place value =
    if nat_lt kind 4 then Push value
    else if nat_lt kind 5 then Pop
    else if nat_lt kind 6 then Set (place % 8) value
    else if nat_lt kind 10 then Alloc value
    else if nat_lt kind 11 then Free (place % 8)
    else if nat_lt kind 12 then Put (place % 8) value
    else if nat_lt kind 14 then Insert (place % 4096)
    else Remove (place % 4096)

-- the command of the three draws from this number on
abbrev pub drawn_command : ℕ → Command ℕ
drawn_command number = command_of_draws (draw 0 number % 16) (draw 1 number) (draw 2 number)

-- the end of a batch: one draw in four aborts it
abbrev pub drawn_end : ℕ → End
drawn_end drawn = if nat_lt (drawn % 4) 1 then Abort else Commit

-- the batch of the 25 draws from this number on: eight commands of three draws each, and its end
abbrev pub batch_of : ℕ → PlainItem
batch_of number = batch (map (λ k. drawn_command (number_after (3 * k) number)) (range_with_len 0 8)) (drawn_end (draw 24 number))

-- the script of a seed and a number of batches: a room, and then the batches, of 25 draws each
abbrev pub generated : ℕ → ℕ → List PlainItem
generated seed count = reserve 4096 ∷ map (λ k. batch_of (number_after (25 * k) seed)) (range_with_len 0 count)
