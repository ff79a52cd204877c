use Rattle.std.proofs.Common.{◌≡◌, ◌*◌, ◌∷◌, map}
use Rattle.std.specs.List.{range_with_len}
use Rattle.batch_script.specs.Generated.{batch_of, number_after}
use Rattle.batch_script.specs.Machine.{reserve}
use Rattle.batch_script.specs.Reading.{plain_items}
use Rattle.batch_script.proofs.generator.generate.Given as goal

abbrev pub invariant-loop : goal.invariant-loop
invariant-loop l = record {
  items : plain_items l.items.items ≡ reserve 4096 ∷ map (λ k. batch_of (number_after (25 * k) l.fn.seed)) (range_with_len 0 l.counter);
  number : l.generator.number ≡ number_after (25 * l.counter) l.fn.seed;
}
