use Rattle.std.proofs.Common.{rules}
use Rattle.wic_vec.proofs.ClosureFacts.{all_from_retains}
use Rattle.wic_vec.proofs.callers.keep_all.Goals as goal

pub returns : goal.returns
returns c = record { all = all_from_retains _ (λ g x b next k. search rules) _ _ _ c.retain.ensures.items }
