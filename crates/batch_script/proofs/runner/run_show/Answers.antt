use Rattle.std.proofs.Common.{refl, inl}
use Rattle.batch_script.specs.Machine.{show, shown_of}
use Rattle.batch_script.proofs.RunFacts.{answered_by}
use Rattle.batch_script.proofs.runner.run_show.Goals as goal

pub returns : goal.returns
returns g c =
    let held = g.S.Space.held c.args.space.now in
    record {
      answered =
          answered_by g.S.Space.meaning.bodies c.push_contents.result show held held c.args.text.now.bytes c.push_contents.new.text.bytes
          (shown_of held.contents) (inl refl) (rw c.workspace.ensures.held at c.push_contents.ensures.lines);
    }
