use Rattle.std.proofs.Common.{◌≡◌, ◌*◌, map}
use Rattle.std.specs.List.{range_with_len}
use Rattle.batch_script.specs.Generated.{drawn_command, number_after}
use Rattle.batch_script.proofs.generator.Generator.batch.Given as goal

abbrev pub invariant-loop : goal.invariant-loop
invariant-loop l = record {
  commands : l.commands.items ≡ map (λ k. drawn_command (number_after (3 * k) l.initial.self.number)) (range_with_len 0 l.counter);
  number : l.self.number ≡ number_after (3 * l.counter) l.initial.self.number;
}
