use Rattle.std.proofs.Common.{◌∙◌, ap, subst, arith, min}
use Rattle.batch_script.specs.MemoryDevice.{Gave}
use Rattle.batch_script.proofs.DeviceFacts.{front_gave}
use Rattle.batch_script.proofs.memory_device.MemSourceSource.read.Goals as goal

pub returns-clause-reaches : goal.returns-clause-reaches
returns-clause-reaches c =
    let was = c.self.view_is in
    let plan = c.next_call_fails.ensures.counted in
    let count = c.take.result in record {
      gave = subst (λ left. Gave (min count 1) left c.take.new.self) (ap (λ s. s.left) was)
          (front_gave count c.self.inside.source c.take.new.self (let most = c.take.ensures.count in omega arith) c.take.ensures.rest);
      piece = ap (λ s. s.piece) was;
      failing = ap (λ p. p.failing.items) plan ∙ ap (λ s. s.failing) was;
      quiet = λ none. ap (λ p. p.faults) plan ∙ ap (λ s. s.faults) was;
    }
