-- What a refusal says: its kinds, with their numbers and texts.
use Rattle.std.specs.Prelude.{ℕ, List, ◌++◌, codes, Option, Some, None}
use Rattle.std.specs.Fmt.{decimal}
use Rattle.batch_core.specs.declared.command.Cause.{Cause}
use Rattle.batch_core.specs.declared.command.Cause.TheVariants as cause
use Rattle.batch_script.specs.declared.kind.BatchKind.{BatchKind}
use Rattle.batch_script.specs.declared.kind.BatchKind.TheVariants.{Empty, Position, Vacant, Full, TooLarge, Command, Reserve}

-- the number of a kind, by which links are looked for
abbrev pub kind_number : BatchKind → ℕ
kind_number Empty = 1
kind_number Position = 2
kind_number Vacant = 3
kind_number Full = 4
kind_number TooLarge = 5
kind_number (Command at) = 6
kind_number Reserve = 7

-- the text of a kind
abbrev pub kind_text : BatchKind → List ℕ
kind_text Empty = codes "list is empty"
kind_text Position = codes "position is not below the length"
kind_text Vacant = codes "id is not live"
kind_text Full = codes "table is full"
kind_text TooLarge = codes "number is too large"
kind_text (Command at) = codes "command " ++ decimal at
kind_text Reserve = codes "reserve"

-- the kind of a cause, if it has one: out of memory has none
abbrev pub kind_of_cause : Cause → Option BatchKind
kind_of_cause cause.Empty = Some Empty
kind_of_cause cause.Position = Some Position
kind_of_cause cause.Vacant = Some Vacant
kind_of_cause cause.Full = Some Full
kind_of_cause cause.TooLarge = Some TooLarge
kind_of_cause (cause.Oom size) = None
