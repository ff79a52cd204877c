use Rattle.std.proofs.Common.{arith, length, ap, ◌∙◌, ◌++◌}
use Rattle.wic_collect.proofs.boxed.new_boxed_slice_from_iter_with_len.Goals as goal

pub returns-in-Ok-clause-runs : goal.returns-in-Ok-clause-runs
returns-in-Ok-clause-runs g c =
    let one = c.in-Ok.ensures.runs in
    let run = one.2 in
    let none = c.in_ok-builder.ensures.empty in (
      one.0,
      one.1,
      (
        run.0,
        run.1,
        (
          run.2.0 ∙ ap (λ l. l ++ run.0.items) none,
          omega (arith, run.2.1, ap length none, c.in_ok-builder.ensures.capacity),
        ),
      ),
    )

pub returns-in-Err-clause-too_few_run : goal.returns-in-Err-clause-too_few_run
returns-in-Err-clause-too_few_run g c =
    let one = c.in-Err.ensures.too_few_run in
    let run = one.2 in
    let none = c.in_ok-builder.ensures.empty in (
      one.0,
      one.1,
      (run.0, run.1, run.2, omega (arith, run.3, ap length none, c.in_ok-builder.ensures.capacity)),
    )
