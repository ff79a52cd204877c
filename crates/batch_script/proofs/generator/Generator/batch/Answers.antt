use Rattle.std.proofs.Common.{◌≡◌, ◌*◌, ◌∷◌, ◌++◌, [], ap, ◌∙◌, arith}
use Rattle.batch_script.specs.Generated.{drawn_command, draw, drawn_end, next_number, number_after}
use Rattle.batch_script.specs.Machine.{batch}
use Rattle.batch_script.proofs.DrawFacts.{number_after-step, made-more, made_in_steps}
use Rattle.batch_script.proofs.generator.Generator.batch.Goals as goal

pub loop-preserved : goal.loop-preserved
loop-preserved c =
    let held = c.loop.self.number in
    let inv = c.loop.invariant in
    record {
      commands = c.in_ok-push.ensures.last ∙ (λ i. inv.commands i ++ c.command.ensures.command i ∷ [])
          ∙ made-more drawn_command 3 c.args.self.now.number c.loop.counter held inv.number;
      number = number_after-step 3 c.loop.counter c.args.self.now.number held c.command.new.self.number inv.number c.command.ensures.next;
    }

pub returns : goal.returns
returns c =
    let number = c.args.self.now.number in
    let inv = c.loop.invariant in
    let eight : c.loop.counter ≡ 8 = omega (arith, c.loop-test.false, c.loop.auto.counter-end) in
    let held : c.loop.self.number ≡ number_after 24 number = inv.number ∙ ap (λ k. number_after (3 * k) number) eight in
    let ended = c.end-end.ensures.end ∙ ap (λ x. drawn_end (draw 0 x)) held in
    let commands = inv.commands ∙ ap (made_in_steps drawn_command 3 number) eight in
    record {
      batch = λ i. batch (commands i) (ended i);
      next = c.end-end.ensures.next ∙ ap next_number held;
    }
