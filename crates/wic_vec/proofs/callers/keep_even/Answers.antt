use Rattle.std.proofs.Common.{rules}
use Rattle.wic_vec.proofs.ClosureFacts.{filter_from_retains}
use Rattle.wic_vec.proofs.callers.keep_even.Goals as goal

pub returns : goal.returns
returns c = record { even = filter_from_retains _ _ _ (λ x b next k. search rules) _ _ c.retain.ensures.items }
