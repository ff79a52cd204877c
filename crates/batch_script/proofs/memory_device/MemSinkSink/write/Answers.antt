use Rattle.std.proofs.Common.{◌∙◌, [], ap, sym, arith}
use Rattle.std.proofs.lemmas.List.{append-nil}
use Rattle.batch_script.proofs.memory_device.MemSinkSink.write.Goals as goal

pub returns-then-not-is_empty-clause-reaches : goal.returns-then-not-is_empty-clause-reaches
returns-then-not-is_empty-clause-reaches c =
    let was = c.self.view_is in
    let failed = c.fail-then-not-is_empty.ensures.counted in
    let counted = c.next_call_fails.ensures.counted in record {
      taken = [];
      bytes = ap (λ s. s.bytes) was ∙ sym (append-nil c.args.self.now.bytes);
      each = omega arith;
      room = ap (λ s. s.room) was;
      piece = ap (λ s. s.piece) was;
      failing = ap (λ p. p.failing.items) failed ∙ (ap (λ p. p.failing.items) counted ∙ ap (λ s. s.failing) was);
      quiet = λ none left. absurd (omega arith);
    }
