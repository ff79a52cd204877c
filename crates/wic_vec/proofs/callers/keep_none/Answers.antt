use Rattle.std.proofs.Common.{rules}
use Rattle.wic_vec.proofs.ClosureFacts.{none_from_retains}
use Rattle.wic_vec.proofs.callers.keep_none.Goals as goal

pub returns : goal.returns
returns c = record { none = none_from_retains _ (λ g x b next k. search rules) _ _ _ c.retain.ensures.items }
