use Rattle.std.proofs.Common.{◌≡◌, ◌∙◌, ap, List}
use Rattle.std.specs.Prelude.{slice_set}
use Rattle.std.proofs.lemmas.Result.{on_err_weaker}
use Rattle.liveness.specs.Graph.{Body, Flow}
use Rattle.liveness.proofs.GraphFacts.{set_kept}
use Rattle.liveness.proofs.graph.Graph.add_op.Goals as goal

pub returns-clause-refusal_leaves : goal.returns-clause-refusal_leaves
returns-clause-refusal_leaves c =
    let flow : List Body → Flow = λ bs. record { blocks = bs; vars = c.self.inside.vars } in
    on_err_weaker {P = c.push_op.new.self ≡ c.index_mut.result.now}
    {Q = flow (slice_set c.self.inside.blocks.items c.args.b.0 c.push_op.new.self) ≡ c.args.self.now} c.push_op.result
    (λ kept. ap flow (set_kept _ _ _ _ c.index_mut.ensures.item kept) ∙ c.self.view_is) c.push_op.ensures.refusal_leaves
