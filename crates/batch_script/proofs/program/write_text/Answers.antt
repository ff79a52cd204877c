use Rattle.std.proofs.Common.{◌∙◌, ◌++◌, ap, arith, length, min, take, Some, subst, append_assoc}
use Rattle.std.proofs.lemmas.Bool.Decides.{nat_tests}
use Rattle.batch_script.specs.Device.{Rose}
use Rattle.std.proofs.lemmas.List.{length-append, length-take}
use Rattle.batch_script.proofs.PieceFacts.{and_one, front-more, nonempty, on-err}
use Rattle.batch_script.proofs.program.write_text.Goals as goal

pub loop-rest-preserved : goal.loop-rest-preserved
loop-rest-preserved g c =
    let inv = c.loop-rest.invariant in
    let rest = c.loop-rest.rest.now in
    let count = c.in_ok-count.count in record {
      kept = c.in_ok-count.ensures.cause.kept ∙ inv.kept;
      written = (
        inv.written.0 ++ take count rest,
        inv.written.1 ∙ front-more inv.written.0 rest count,
        λ held was. c.in_ok-count.ensures.bytes (held ++ inv.written.0) (inv.written.2 held was)
            ∙ ap Some (append_assoc held inv.written.0 (take count rest)),
        and_one g.K.Device.reaches g.K.Device.goes_on (length inv.written.0) (min count 1)
            (length (inv.written.0 ++ take count rest)) c.args.sink.now
            c.loop-rest.sink c.write.new.self inv.written.3 c.in_ok-count.ensures.reaches (
            let within = c.in_ok-count.ensures.within in let long = length-append inv.written.0 (take count rest) in
            let piece = length-take count rest in omega arith),
      );
      can_call = c.in_ok-count.ensures.can_call;
    }

pub returns-in_err-count-clause-front : goal.returns-in_err-count-clause-front
returns-in_err-count-clause-front g c =
    let inv = c.loop-rest.invariant in
    let failed = c.in_err-count.ensures in
    on-err c.from_residual.result (record {
      rose = subst (λ before. Rose before (g.K.Device.faults c.write.new.self)) inv.kept failed.cause.failed;
      front = inv.written.0;
      rest = c.loop-rest.rest.now;
      parts = inv.written.1;
      more = nonempty c.loop-rest.rest.now (grind (arith, nat_tests));
      gained = λ held was. failed.failed_takes_nothing ∙ inv.written.2 held was;
      writes = and_one g.K.Device.reaches g.K.Device.goes_on (length inv.written.0) 0
          (length inv.written.0) c.args.sink.now c.loop-rest.sink
          c.write.new.self inv.written.3 failed.reaches (omega arith);
    })
