use Rattle.std.proofs.Common.{refl, ◌∙◌}
use Rattle.wic_base.proofs.AlongFacts.{in_order_by_firsts, keeps_along}
use Rattle.wic_vec.specs.Drain.{drain_items, DrainSteps, DrainKeeps}
use Rattle.wic_vec.proofs.vec.TryVec.drain.Goals as goal

pub returns-clause-in_order : goal.returns-clause-in_order
returns-clause-in_order g c = in_order_by_firsts DrainSteps drain_items (λ s t none. none.0) (λ s x t some. some.0)

pub returns-clause-stays : goal.returns-clause-stays
returns-clause-stays g c =
    keeps_along DrainSteps DrainKeeps (λ s. (refl, refl, refl))
    (λ r s t here there. (there.0 ∙ here.0, there.1 ∙ here.1, there.2 ∙ here.2)) (λ s t x some. some.1) _
