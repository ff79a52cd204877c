use Rattle.std.specs.FinMap.{contains_key}
use Rattle.std.proofs.Common.{◌≢◌, true≢false, sym, ap, ◌∙◌}
use Rattle.wic_slab.specs.Order.{next_id}
use Rattle.wic_base.proofs.MapFacts.{get-insert_other}
use Rattle.wic_slab.proofs.callers.hold_both.Goals as goal

-- the second id was vacant while the first was live, so what is held under the first stays
pub returns-clause-first : goal.returns-clause-first
returns-clause-first g c =
    let one = c.in_ok-one.ensures.holds in
    let other = c.in_ok-other.ensures.holds in
    let differs : c.in_ok-one.one ≢ next_id c.alloc.new.self.order = λ same.
    true≢false (sym one.now_live ∙ ap (contains_key c.alloc.new.self.live) (same ∙ sym other.id_is) ∙ other.was_vacant) in
    rw other.live (get-insert_other _ _ _ _ differs ∙ one.found)
