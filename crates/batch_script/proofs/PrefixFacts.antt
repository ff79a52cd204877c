-- What comes next in the lines of a script, after those of items and of a batch that has begun.
use Rattle.std.proofs.Common.{◌≡◌, ◌⊎◌, ℕ, List, [], ◌∷◌, ◌++◌, map, sym, ap, ◌∙◌, refl, inl, inr, append_assoc}
use Rattle.std.specs.Prelude.{codes}
use Rattle.std.specs.List.{AllByRecursion}
use Rattle.batch_core.specs.declared.command.Command.{Command}
use Rattle.batch_core.specs.declared.command.End.{End}
use Rattle.batch_script.specs.Machine.{ItemOf, reserve, show, batch}
use Rattle.batch_script.specs.Grammar.{Line, IsValidCommand, line_of, command_line, end_line}
use Rattle.batch_script.specs.Grammar.{Printing, TellsBodies, IsValidItemOver, ended_lines, printed_over, all_lines_over}
use Rattle.batch_script.specs.Reading.{first_word, first_numbers}
use Rattle.batch_script.proofs.ScriptFacts.{apart, first_line, batch_lines, command_is_no_end, same_item, no_lines_left}

-- after the lines of items come those of more items
pub rest-after_items : {B : Type 0} (printing : Printing B) (told : TellsBodies printing) (done items : List (ItemOf B))
    (rest : List Line) → AllByRecursion (IsValidItemOver printing) done → AllByRecursion (IsValidItemOver printing) items
    → all_lines_over printing done ++ rest ≡ all_lines_over printing items
    → (more : List (ItemOf B)) × (rest ≡ all_lines_over printing more) × AllByRecursion (IsValidItemOver printing) more
rest-after_items printing told [] items rest valid sound same = (items, same, sound)
rest-after_items printing told (item ∷ done) [] rest valid sound same =
    absurd (no_lines_left printing item (all_lines_over printing done ++ rest)
    (sym (sym (append_assoc (printed_over printing item) (all_lines_over printing done) rest) ∙ same)))
rest-after_items printing told (item ∷ done) (other ∷ items) rest valid sound same =
    let parts = same_item printing told item other (all_lines_over printing done ++ rest) (all_lines_over printing items) valid.0 sound.0
    (sym (append_assoc (printed_over printing item) (all_lines_over printing done) rest) ∙ same) in
    rest-after_items printing told done items rest valid.1 sound.1 parts.1

module _ {B : Type 0} (printing : Printing B) where
  -- the line is the first one of a valid item
  abbrev pub StartsItem : Line → Type 0
  StartsItem line = (item : ItemOf B) × IsValidItemOver printing item × (line ≡ line_of (first_word item) (first_numbers item))

  -- a script begins with the first line of an item
  pub starts_item : (line : Line) (rest : List Line) (items : List (ItemOf B)) → AllByRecursion (IsValidItemOver printing) items
      → line ∷ rest ≡ all_lines_over printing items → StartsItem line
  starts_item line rest [] valid same = absurd (let bad : _ = same in cc)
  starts_item line rest (reserve number ∷ items) valid same = (reserve number, valid.0, cc)
  starts_item line rest (show ∷ items) valid same = (show, tt, cc)
  starts_item line rest (batch body ending ∷ items) valid same = (batch body ending, valid.0, cc)

  -- the lines are those of a valid body with its end, and of what follows them
  pub record HasWhole (lines : List Line) : Type 0 where
    pub body : B
    pub ending : End
    pub rest : List Line
    pub valid : printing.is_valid body
    pub same : lines ≡ ended_lines printing body ending ++ rest

  -- behind the line of a begin a script goes on with a whole body
  pub begun_has_whole : (lines : List Line) (items : List (ItemOf B)) → AllByRecursion (IsValidItemOver printing) items
      → codes "begin" ∷ lines ≡ all_lines_over printing items → HasWhole lines
  begun_has_whole lines [] valid same = absurd (let bad : _ = same in cc)
  begun_has_whole lines (reserve number ∷ items) valid same = absurd (apart _ _ refl (ap first_line same))
  begun_has_whole lines (show ∷ items) valid same = absurd (apart _ _ refl (ap first_line same))
  begun_has_whole lines (batch body ending ∷ items) valid same =
      record { body = body; ending = ending; rest = all_lines_over printing items; valid = valid.0; same = cc }

-- the line goes on with a batch: a command, or its end
abbrev pub GoesOn : Line → Type 0
GoesOn line =
    ((command : Command ℕ) × IsValidCommand command × (line ≡ command_line command)) ⊎ ((ending : End) × (line ≡ end_line ending))

-- after the commands of a batch comes one more, or its end
pub next_in_batch : (cs ds : List (Command ℕ)) (f : End) (line : Line) (rest more : List Line) → AllByRecursion IsValidCommand cs
    → AllByRecursion IsValidCommand ds → map command_line cs ++ line ∷ rest ≡ batch_lines ds f more → GoesOn line
next_in_batch [] [] f line rest more valid sound same = inr (f, cc)
next_in_batch [] (d ∷ ds) f line rest more valid sound same = inl (d, sound.0, cc)
next_in_batch (c ∷ cs) [] f line rest more valid sound same =
    let heads : command_line c ≡ end_line f = cc in absurd (command_is_no_end c f valid.0 heads)
next_in_batch (c ∷ cs) (d ∷ ds) f line rest more valid sound same =
    let tails : map command_line cs ++ line ∷ rest ≡ batch_lines ds f more = cc in
    next_in_batch cs ds f line rest more valid.1 sound.1 tails

-- commands alone are no whole batch
pub unended : (cs ds : List (Command ℕ)) (f : End) (more : List Line) → AllByRecursion IsValidCommand cs
    → map command_line cs ≡ batch_lines ds f more → ⊥
unended [] [] f more valid same = cc
unended [] (d ∷ ds) f more valid same = cc
unended (c ∷ cs) [] f more valid same =
    let heads : command_line c ≡ end_line f = cc in command_is_no_end c f valid.0 heads
unended (c ∷ cs) (d ∷ ds) f more valid same =
    let tails : map command_line cs ≡ batch_lines ds f more = cc in unended cs ds f more valid.1 tails
