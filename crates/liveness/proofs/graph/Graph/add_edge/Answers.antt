use Rattle.std.proofs.Common.{◌≡◌, ◌∙◌, ap, sym, subst, List}
use Rattle.std.specs.Prelude.{slice_set}
use Rattle.std.proofs.Math.ListN.{length-set}
use Rattle.std.proofs.lemmas.Result.{on_ok_weaker, on_err_weaker}
use Rattle.entity_set.proofs.KeysFacts.{either_way}
use Rattle.liveness.specs.Graph.{Body, Flow, EdgesStayWithin}
use Rattle.liveness.proofs.GraphFacts.{set_kept, edges_added, edge_added}
use Rattle.liveness.proofs.graph.Graph.add_edge.Goals as goal

pub invariant_of-self : goal.invariant_of-self
invariant_of-self c =
    let seen = ap (λ (x : Flow). x.blocks) c.self.view_is in (
      either_way c.push_successor.result c.push_successor.ensures.added c.push_successor.ensures.refusal_leaves
          (λ added. edges_added _ _ c.args.to _ _ (rw seen c.requires.source) (rw seen c.requires.target) c.self.invariant.0
          c.index_mut.ensures.item added)
          (λ kept. subst EdgesStayWithin (sym (set_kept _ _ _ _ c.index_mut.ensures.item kept)) c.self.invariant.0),
      rw length-set c.self.invariant.1,
    )

pub returns-clause-added : goal.returns-clause-added
returns-clause-added c =
    let seen = ap (λ (x : Flow). x.blocks) c.self.view_is in
    rw (← seen) (on_ok_weaker c.push_successor.result (edge_added _ _ c.args.to _ _ c.index_mut.ensures.item)
    c.push_successor.ensures.added)

pub returns-clause-refusal_leaves : goal.returns-clause-refusal_leaves
returns-clause-refusal_leaves c =
    let flow : List Body → Flow = λ bs. record { blocks = bs; vars = c.self.inside.vars } in
    on_err_weaker {P = c.push_successor.new.self ≡ c.index_mut.result.now}
    {Q = flow (slice_set c.self.inside.blocks.items c.args.from.0 c.push_successor.new.self) ≡ c.args.self.now} c.push_successor.result
    (λ kept. ap flow (set_kept _ _ _ _ c.index_mut.ensures.item kept) ∙ c.self.view_is) c.push_successor.ensures.refusal_leaves
