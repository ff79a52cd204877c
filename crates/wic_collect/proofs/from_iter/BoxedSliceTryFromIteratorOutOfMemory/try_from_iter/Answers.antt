use Rattle.std.proofs.Common.{◌≡◌, ◌∙◌}
use Rattle.std.specs.Bool.{⊤}
use Rattle.std.specs.Iterator.Runs.{SomeRun, WholeRun}
use Rattle.wic_collect.proofs.RunFacts.{by_result}
use Rattle.wic_collect.proofs.from_iter.BoxedSliceTryFromIteratorOutOfMemory.try_from_iter.Goals as goal

pub returns-clause-runs : goal.returns-clause-runs
returns-clause-runs g c =
    let run = c.in_ok-items.ensures.runs in
    let steps = g.I.Iterator.next_gives in
    by_result c.into_boxed_slice.result (λ s. s ≡ c.in_ok-items.items.items)
    (λ s. WholeRun steps c.args.iter (λ p. s ≡ p.items)) (λ e. SomeRun steps c.args.iter (λ p. ⊤))
    c.into_boxed_slice.ensures.items (λ s is. (run.0, run.1, run.2, is ∙ run.3)) (λ e. (run.0, run.1, tt))
