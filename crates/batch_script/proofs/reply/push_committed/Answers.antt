use Rattle.std.proofs.Common.{◌++◌, ap, ◌∙◌, append_assoc}
use Rattle.std.specs.Prelude.{codes}
use Rattle.std.specs.List.{flat_map}
use Rattle.std.proofs.lemmas.Result.{on_ok_weaker}
use Rattle.batch_script.specs.Reply.{record_lines, text_of_lines}
use Rattle.batch_script.proofs.RunFacts.{text-committed}
use Rattle.batch_script.proofs.reply.push_committed.Goals as goal

pub returns : goal.returns
returns c =
    let before = c.args.text.now.bytes in
    let lines = text_of_lines (flat_map record_lines c.args.records.now) in record {
      lines = on_ok_weaker c.push_str.result
          (λ last. last ∙ ap (λ bytes. bytes ++ codes "committed\n") c.in_ok-push_records.ensures.lines
          ∙ append_assoc before lines (codes "committed\n") ∙ ap (λ more. before ++ more) (text-committed c.args.records.now))
          c.push_str.ensures.last;
    }
