-- What the parser has read so far of a script of nests, as plain items and lines.
use Rattle.std.specs.Prelude.{⊤, ◌≡◌, ℕ, zero, suc, List, [], ◌∷◌, ◌++◌, map, Option}
use Rattle.std.specs.List.{AllByRecursion}
use Rattle.batch_script.specs.Grammar.{Line, Printing}
use Rattle.batch_script.specs.Machine.{reserve, show, batch}
use Rattle.batch_script.specs.Reading.{AreReadOver}
use Rattle.batch_nest.specs.declared.item.NestItem.{NestItem}
use Rattle.batch_nest.specs.declared.item.NestItem.TheVariants.{Reserve, Show, Nest as NestOf}
use Rattle.batch_nest.specs.declared.nest.NestLine.{NestLine}
use Rattle.batch_nest.specs.declared.nest.NestLine.TheVariants.{Commit as CommitLine}
use Rattle.batch_nest.specs.declared.parser.NestReading.{NestReading}
use Rattle.batch_nest.specs.declared.parser.OpenNest.{OpenNest}
use Rattle.batch_nest.specs.Nest.{nest_lines, IsBalanced}
use Rattle.batch_nest.specs.Script.{PlainNestItem, IsValidLine, nest_printing, printed_line}

-- an item of the parser stands for this one: a nest has the lines of its body
abbrev pub StandsForItem : NestItem → PlainNestItem → Type 0
StandsForItem (Reserve number) (reserve amount) = number ≡ amount
StandsForItem Show show = ⊤
StandsForItem (NestOf nest) (batch body ending) = (nest.lines.items ≡ nest_lines body) × (nest.end ≡ ending)
StandsForItem (Reserve number) show = ⊥
StandsForItem (Reserve number) (batch body ending) = ⊥
StandsForItem Show (reserve amount) = ⊥
StandsForItem Show (batch body ending) = ⊥
StandsForItem (NestOf nest) (reserve amount) = ⊥
StandsForItem (NestOf nest) show = ⊥

-- items of the parser stand for these, one for one
abbrev pub StandFor : List NestItem → List PlainNestItem → Type 0
StandFor [] [] = ⊤
StandFor (item ∷ items) (plain ∷ plains) = StandsForItem item plain × StandFor items plains
StandFor [] (plain ∷ plains) = ⊥
StandFor (item ∷ items) [] = ⊥

-- so many lines that end an inner batch
abbrev pub commits : ℕ → List (NestLine ℕ)
commits zero = []
commits (suc depth) = CommitLine ∷ commits depth

-- a nest that has begun has only valid lines, and with an end for each inner batch that is open they are balanced
pub record IsOpenNest (begun : OpenNest) : Type 0 where
  pub valid : AllByRecursion IsValidLine begun.lines.items
  pub balanced : IsBalanced (begun.lines.items ++ commits begun.depth)

-- a nest that has begun is printed as its lines
abbrev pub open_printing : Printing OpenNest
open_printing = record { body_lines = λ begun. map printed_line begun.lines.items; is_valid = IsOpenNest }

-- these items were read, and then this nest begun, from these lines
abbrev pub HaveRead : List NestItem → Option OpenNest → List Line → Type 0
HaveRead items begun lines =
    (plains : List PlainNestItem) × StandFor items plains × AreReadOver nest_printing open_printing plains begun lines

-- the reading has taken these lines
abbrev pub HasReadNests : NestReading → List Line → Type 0
HasReadNests reading lines = HaveRead reading.items.items reading.begun lines

-- if the reading had taken lines, it takes this line of a nest behind them
abbrev pub TakesNestLine : NestReading → NestReading → NestLine ℕ → Type 0
TakesNestLine old new line =
    (lines : List Line) → IsValidLine line → HasReadNests old lines → HasReadNests new (lines ++ printed_line line ∷ [])
