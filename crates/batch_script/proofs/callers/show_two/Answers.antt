use Rattle.std.proofs.Common.{refl}
use Rattle.std.specs.Fmt.{digits}
use Rattle.batch_script.proofs.ShownFacts.{shows}
use Rattle.batch_script.proofs.callers.show_two.Goals as goal

pub returns-in-Ok : goal.returns-in-Ok
unfolding digits
returns-in-Ok c = record {
  shown = rw (
    c.in-Ok.ensures.lines,
    c.new-text.ensures.empty,
    c.in_ok-step-2.ensures.done.effect,
    c.in_ok-step.ensures.done.effect,
    c.requires.empty,
  ) (rw shows refl);
}
