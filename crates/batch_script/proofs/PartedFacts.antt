-- Each line of a script is a word with up to two numbers, so with any other line none goes on.
use Rattle.std.proofs.Common.{◌≡◌, List, [], ◌∷◌, ◌++◌, refl, sym, ◌∙◌, subst, arith, append_assoc}
use Rattle.std.specs.Prelude.{codes}
use Rattle.std.specs.List.{AllByRecursion}
use Rattle.batch_core.specs.declared.command.End.{End}
use Rattle.batch_script.specs.Machine.{ItemOf, reserve, show, batch}
use Rattle.batch_script.specs.Grammar.{Line, Printing, IsValidItemOver, IsOpenOver, printed_over, all_lines_over, end_line}
use Rattle.batch_script.specs.Reading.{HasNoParts, HasPartsThroughout, HasSomeParts}
use Rattle.batch_script.specs.ReadingLaws.{AllByRecursion-append}
use Rattle.batch_script.proofs.ListFacts.{AllByRecursion-behind}
use Rattle.batch_script.proofs.ScriptFacts.{end_word}

-- the line that ends a batch is a word
end_has_parts : (ending : End) → HasSomeParts (end_line ending)
end_has_parts ending = (end_line ending, [], omega arith, record { is_word = (end_word ending).0; writable = tt; same = refl })

module _ {B : Type 0} (printing : Printing B) (parted : HasPartsThroughout printing) where
  -- so is each line of an item, with up to two numbers
  item_has_parts : (item : ItemOf B) → IsValidItemOver printing item → AllByRecursion HasSomeParts (printed_over printing item)
  item_has_parts (reserve number) valid = (
    (codes "reserve", number ∷ [], omega arith, record { is_word = refl; writable = (valid, tt); same = refl }),
    tt,
  )
  item_has_parts show valid = ((codes "show", [], omega arith, record { is_word = refl; writable = tt; same = refl }), tt)
  item_has_parts (batch body ending) valid = (
    (codes "begin", [], omega arith, record { is_word = refl; writable = tt; same = refl }),
    AllByRecursion-append HasSomeParts (printing.body_lines body) (end_line ending ∷ []) (parted body valid)
        (end_has_parts ending, tt),
  )

  -- and each line of a script
  all_have_parts : (items : List (ItemOf B)) → AllByRecursion (IsValidItemOver printing) items
      → AllByRecursion HasSomeParts (all_lines_over printing items)
  all_have_parts [] valid = tt
  all_have_parts (item ∷ items) valid =
      AllByRecursion-append HasSomeParts (printed_over printing item) (all_lines_over printing items) (item_has_parts item valid.0)
      (all_have_parts items valid.1)

  -- if a line is no word with up to two numbers no script goes on with it
  pub stuck_without_parts : (lines : List Line) (line : Line) → HasNoParts line → IsOpenOver printing (lines ++ line ∷ []) → ⊥
  stuck_without_parts lines line never opened =
      let same : lines ++ line ∷ opened.1 ≡ all_lines_over printing opened.0 =
      sym (append_assoc lines (line ∷ []) opened.1) ∙ opened.3 in
      let parts = (AllByRecursion-behind HasSomeParts lines (line ∷ opened.1)
      (subst (AllByRecursion HasSomeParts) (sym same) (all_have_parts opened.0 opened.2))).0 in
      never parts.0 parts.1 parts.2 parts.3
