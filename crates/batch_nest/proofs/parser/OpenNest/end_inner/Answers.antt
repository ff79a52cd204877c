use Rattle.std.proofs.Common.{◌≡◌, [], ◌∷◌, ◌++◌, ap, arith, sym, ◌∙◌}
use Rattle.batch_nest.specs.Nest.{nest_end}
use Rattle.batch_nest.proofs.parser.OpenNest.end_inner.Goals.{in-Commit, in-Abort}
use Rattle.batch_nest.proofs.parser.OpenNest.end_inner.Goals as goal

pub returns : goal.returns
returns c =
    let ends : c.match-end.line ≡ nest_end c.args.end = elim c.match-end.branch [
      | in-Commit w ↦ w.line-is ∙ ap nest_end (sym w.in-Commit.is)
      | in-Abort w ↦ w.line-is ∙ ap nest_end (sym w.in-Abort.is)
    ] in
    record {
      adds = (c.in_ok-push.ensures.last ∙ ap (λ line. c.args.self.now.lines.items ++ line ∷ []) ends, omega (arith, c.requires.some_open));
    }
