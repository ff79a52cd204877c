-- The lines of a body lead back to it, and items that stand for plain items are these.
use Rattle.std.proofs.Common.{◌≡◌, List, [], ◌∷◌, ◌++◌, map, refl, sym, ap, ◌∙◌, append_assoc}
use Rattle.std.proofs.lemmas.List.{append-nil}
use Rattle.std.specs.List.{AllByRecursion}
use Rattle.batch_core.specs.declared.command.End.{End}
use Rattle.batch_core.specs.declared.command.End.TheVariants.{Commit, Abort}
use Rattle.batch_script.specs.Machine.{reserve, show, batch}
use Rattle.batch_nest.specs.declared.item.NestItem.{NestItem}
use Rattle.batch_nest.specs.declared.item.NestItem.TheVariants.{Reserve, Show, Nest as NestOf}
use Rattle.batch_core.specs.declared.command.Command.{Command}
use Rattle.batch_nest.specs.declared.nest.NestLine.{NestLine}
use Rattle.batch_nest.specs.declared.nest.NestLine.TheVariants.{Command as CommandLine}
use Rattle.batch_nest.specs.Applied.{OfBody}
use Rattle.batch_nest.specs.Laws.{BalancedByTheBody, plain_lines}
use Rattle.batch_nest.specs.Nest.{Body, done, then_command, then_inner, nest_lines, nest_end, IsBalanced}
use Rattle.batch_nest.specs.Nest.{FromLast, body_of, from_last, with_begin, with_end}
use Rattle.batch_nest.specs.Reading.{StandFor, StandsForItem}
use Rattle.batch_nest.specs.Script.{PlainNestItem}
use Rattle.batch_nest.specs.Space.{MayRun, plain_nest_item}

module _ {X : Type 0} where
  from_end : (ending : End) (lines : List (NestLine X)) → from_last (nest_end ending ∷ lines) ≡ with_end ending (from_last lines)
  from_end Commit lines = refl
  from_end Abort lines = refl

  -- the lines of a body in front of lines that begin with none
  from_body : (body : Body X) (lines : List (NestLine X)) → (from_last lines).body ≡ done
      → from_last (nest_lines body ++ lines) ≡ record { body = body; outer = (from_last lines).outer }
  from_body done lines none = λ i. record { body = none i; outer = (from_last lines).outer }
  from_body (then_command command later) lines none =
      ap (λ (last : FromLast X). record { body = then_command command last.body; outer = last.outer }) (from_body later lines none)
  from_body (then_inner inner ending later) lines none =
      let rest = nest_lines later ++ lines in
      let ended = from_end ending rest in
      let after : from_last (nest_lines inner ++ nest_end ending ∷ rest)
      ≡ record { body = inner; outer = (ending, later) ∷ (from_last lines).outer } =
      from_body inner (nest_end ending ∷ rest) (ap (λ (last : FromLast X). last.body) ended)
      ∙ ap (λ outer. record { body = inner; outer = outer }) (ap (λ (last : FromLast X). last.outer) ended
      ∙ ap (λ (last : FromLast X). (ending, last.body) ∷ last.outer) (from_body later lines none)) in
      ap (λ lines. with_begin (from_last lines).body (from_last lines).outer)
      (append_assoc (nest_lines inner) (nest_end ending ∷ nest_lines later) lines)
      ∙ ap (λ (last : FromLast X). with_begin last.body last.outer) after

  -- the lines of a body lead back to it
  pub body_again : (body : Body X) → body_of (nest_lines body) ≡ body
  body_again body =
      ap body_of (sym (append-nil (nest_lines body))) ∙ ap (λ (last : FromLast X). last.body) (from_body body [] refl)

  -- so the lines of a body are those of the body that they lead to
  pub is_balanced : (lines : List (NestLine X)) (body : Body X) → lines ≡ nest_lines body → IsBalanced lines
  is_balanced lines body is = is ∙ ap nest_lines (sym (body_again body) ∙ ap body_of (sym is))

  -- what holds of each body that has these lines holds of the one that they lead to, if they are balanced
  pub of_lines : {Holds : Body X → Type 0} (lines : List (NestLine X)) → IsBalanced lines → OfBody lines Holds → Holds (body_of lines)
  of_lines lines balanced holds = holds (body_of lines) balanced

  -- commands and nothing else
  abbrev plain_body : List (Command X) → Body X
  plain_body [] = done
  plain_body (command ∷ commands) = then_command command (plain_body commands)

  plain_body-lines : (commands : List (Command X)) → plain_lines commands ≡ nest_lines (plain_body commands)
  plain_body-lines [] = refl
  plain_body-lines (command ∷ commands) = ap (λ lines. CommandLine command ∷ lines) (plain_body-lines commands)

  -- lines that the body has to which they lead are balanced, and so are lines of commands alone
  pub balanced_by_body : BalancedByTheBody X
  balanced_by_body = record {
    known = λ lines known is again. is_balanced lines (body_of known) (is ∙ sym again);
    commands = λ lines commands is. is_balanced lines (plain_body commands) (is ∙ plain_body-lines commands);
  }

-- an item that stands for a plain item is that one, and may be run
same_item : (item : NestItem) (plain : PlainNestItem) → StandsForItem item plain → (plain_nest_item item ≡ plain) × MayRun item
same_item (Reserve number) (reserve amount) stands = (ap reserve stands, tt)
same_item (Reserve number) show stands = absurd stands
same_item (Reserve number) (batch body ending) stands = absurd stands
same_item Show (reserve amount) stands = absurd stands
same_item Show show stands = (refl, tt)
same_item Show (batch body ending) stands = absurd stands
same_item (NestOf nest) (reserve amount) stands = absurd stands
same_item (NestOf nest) show stands = absurd stands
same_item (NestOf nest) (batch body ending) stands =
    let bodies = ap body_of stands.0 ∙ body_again body in
    ((λ i. batch (bodies i) (stands.1 i)), is_balanced nest.lines.items body stands.0)

-- so are all items
pub same_items : (items : List NestItem) (plains : List PlainNestItem) → StandFor items plains
    → (map plain_nest_item items ≡ plains) × AllByRecursion MayRun items
same_items [] [] stand = (refl, tt)
same_items [] (plain ∷ plains) stand = absurd stand
same_items (item ∷ items) [] stand = absurd stand
same_items (item ∷ items) (plain ∷ plains) stand =
    let first = same_item item plain stand.0 in
    let later = same_items items plains stand.1 in
    ((λ i. first.0 i ∷ later.0 i), (first.1, later.1))
