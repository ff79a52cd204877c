use Rattle.std.proofs.Common.{◌∙◌, ◌≤◌, ◌++◌, ◌∷◌, [], List, ℕ, length, refl, sym}
use Rattle.std.specs.Prelude.{codes}
use Rattle.std.specs.Fmt.{decimal}
use Rattle.std.proofs.lemmas.List.{append-nil}
use Rattle.batch_script.specs.declared.program.TheConstants.{INPUT_LIMIT}
use Rattle.batch_script.proofs.StatusFacts.{of_read}
use Rattle.batch_script.proofs.program.answer_to_fault.Goals as goal

pub returns-in-Ok : goal.returns-in-Ok
returns-in-Ok g c =
    let line : List ℕ = (codes "error: syntax at line " ++ decimal c.args.line) ++ 10 ∷ [] in record {
      called_for = λ input source none fault reads. (
        reads.kept,
        record {
          no_words = refl;
          within = of_read (λ bytes. length bytes ≤ INPUT_LIMIT) source input reads reads.within;
          no_script = of_read (λ bytes. ¬ g.P.Program.meaning.is_script bytes) source input reads none;
          line = c.args.line;
          at = of_read (λ bytes. g.P.Program.meaning.is_fault_line bytes c.args.line) source input reads fault;
          tells = c.from_string.ensures.text ∙ (c.in-Ok.ensures.ok ∙ sym (append-nil line));
        },
      );
    }

pub returns-in-Err : goal.returns-in-Err
returns-in-Err g c = record {
  called_for = λ input source none fault reads. (reads.kept, g.P.Program.sound.some_for_usage [] refl, refl);
}
