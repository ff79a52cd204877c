use Rattle.std.proofs.Common.{◌≡◌, Some, None, sym, ◌∙◌}
use Rattle.batch_core.specs.Batch.{committed, aborted, refused}
use Rattle.batch_script.specs.Kind.{kind_of_cause}
use Rattle.batch_script.specs.Machine.{batch, answered, no_memory}
use Rattle.batch_script.proofs.RunFacts.{answered_by, batch_step, refused_step, short_step, cause_text-kind}
use Rattle.batch_script.proofs.runner.run_body.Goals as goal

pub returns-in-Ok-Committed : goal.returns-in-Ok-Committed
returns-in-Ok-Committed g c =
    let meaning = g.S.Space.meaning in
    let old = g.S.Space.held c.args.space.now in
    let new = g.S.Space.held c.apply.new.self in
    let body = meaning.plain_body c.args.body in
    let ending = meaning.ending c.args.body in
    let applied = rw c.in-Ok-Committed.field-0-is at c.in-Ok-Committed.ensures.applied in
    record {
      answered =
          answered_by meaning.bodies c.push_committed.result (batch body ending) old new c.args.text.now.bytes
          c.push_committed.new.text.bytes (answered (committed new.records))
          (batch_step meaning.bodies old new body ending c.apply.ensures.room (committed new.records) applied)
          (rw (c.replies.ensures.records, c.workspace.ensures.held) at c.push_committed.ensures.lines);
    }

pub returns-in-Ok-Aborted : goal.returns-in-Ok-Aborted
returns-in-Ok-Aborted g c =
    let meaning = g.S.Space.meaning in
    let old = g.S.Space.held c.args.space.now in
    let new = g.S.Space.held c.apply.new.self in
    let body = meaning.plain_body c.args.body in
    let ending = meaning.ending c.args.body in
    let applied = rw c.in-Ok-Aborted.field-0-is at c.in-Ok-Aborted.ensures.applied in
    record {
      answered =
          answered_by meaning.bodies c.push_aborted.result (batch body ending) old new c.args.text.now.bytes c.push_aborted.new.text.bytes
          (answered aborted) (batch_step meaning.bodies old new body ending c.apply.ensures.room aborted applied.0)
          c.push_aborted.ensures.lines;
    }

pub returns-in-Some : goal.returns-in-Some
returns-in-Some g c =
    let meaning = g.S.Space.meaning in
    let old = g.S.Space.held c.args.space.now in
    let new = g.S.Space.held c.apply.new.self in
    let body = meaning.plain_body c.args.body in
    let ending = meaning.ending c.args.body in
    let refusal = c.in-Err.field-0 in
    let is : kind_of_cause refusal.cause ≡ Some c.in-Some.why = sym c.of_cause.ensures.kind ∙ c.in-Some.is in
    let applied = c.in-Err.ensures.applied in
    record {
      answered =
          answered_by meaning.bodies c.push_refusal.result (batch body ending) old new c.args.text.now.bytes c.push_refusal.new.text.bytes
          (answered (refused (record { cause = refusal.cause; at = refusal.at })))
          (refused_step meaning.bodies old new body ending c.apply.ensures.room refusal.cause refusal.at c.in-Some.why is applied.0
          applied.2)
          (rw (cause_text-kind refusal.cause c.in-Some.why is) c.push_refusal.ensures.line);
    }

pub returns-in-None : goal.returns-in-None
returns-in-None g c =
    let meaning = g.S.Space.meaning in
    let old = g.S.Space.held c.args.space.now in
    let new = g.S.Space.held c.apply.new.self in
    let body = meaning.plain_body c.args.body in
    let ending = meaning.ending c.args.body in
    let refusal = c.in-Err.field-0 in
    let is : kind_of_cause refusal.cause ≡ None = sym c.of_cause.ensures.kind ∙ c.in-None.is in
    let applied = c.in-Err.ensures.applied in
    record {
      answered =
          answered_by meaning.bodies c.push_no_memory.result (batch body ending) old new c.args.text.now.bytes
          c.push_no_memory.new.text.bytes no_memory
          (short_step meaning.bodies old new body ending c.apply.ensures.room refusal.cause refusal.at is applied.0 applied.2)
          c.push_no_memory.ensures.lines;
    }
