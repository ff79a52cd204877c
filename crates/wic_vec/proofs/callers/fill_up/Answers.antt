use Rattle.std.proofs.Common.{rules}
use Rattle.std.proofs.lemmas.Result.{on_ok_weaker}
use Rattle.wic_vec.proofs.ClosureFacts.{filled_from_answers}
use Rattle.wic_vec.proofs.callers.fill_up.Goals as goal

pub returns : goal.returns
returns c = record {
  filled = on_ok_weaker c.resize_with.result
      (filled_from_answers _ c.args.number _ (λ x next k. search rules) _ _ _) c.resize_with.ensures.items;
}
