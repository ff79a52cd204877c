use Rattle.std.proofs.Common.{rules}
use Rattle.wic_vec.proofs.ClosureFacts.{written_from_retains}
use Rattle.wic_vec.proofs.callers.overwrite.Goals as goal

pub returns : goal.returns
returns c = record { each = written_from_retains _ _ _ (λ x b next y k. search rules) _ _ c.retain_mut.ensures.items }
