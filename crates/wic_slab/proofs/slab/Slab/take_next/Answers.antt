use Rattle.std.proofs.Common.{◌≡◌, ◌≢◌, ◌<◌, Some, length, sym, ap, ◌∙◌, arith, length-set}
use Rattle.std.proofs.lemmas.List.{length_push}
use Rattle.wic_slab.specs.declared.slab.Entry.TheVariants.{Occupied}
use Rattle.wic_slab.specs.Order.{max_capacity, next_id}
use Rattle.wic_slab.proofs.SoundFacts.{next_is, count_at_end, pushed, pushed_order, pushed_live, filled, filled_order, filled_live}
use Rattle.wic_slab.proofs.SoundFacts.{IsSlab-sound}
use Rattle.wic_slab.proofs.StepFacts.{Holds-made}
use Rattle.wic_slab.proofs.slab.Slab.take_next.Goals as goal

pub invariant_of-self : goal.invariant_of-self
invariant_of-self g c =
    let at_end : c.self.inside.next ≡ length c.self.inside.entries.items = omega arith in
    let full = count_at_end _ _ _ _ c.self.invariant.0 at_end in
    let room = rw (← c.self.view_is) at c.requires in
    let below : length c.self.inside.entries.items < max_capacity = omega (arith, c.self.invariant.0.counted) in
    let longer = length_push c.self.inside.entries.items (Occupied c.args.value) in
    rw (c.push_reserved.ensures.last, c.max-self-inside.ensures)
    (pushed _ _ _ c.self.inside.fresh c.args.value c.self.invariant.0 at_end below, omega arith)

pub returns-then-next-len-clause-holds : goal.returns-then-next-len-clause-holds
returns-then-next-len-clause-holds g c =
    let at_end : c.self.inside.next ≡ length c.self.inside.entries.items = omega arith in
    let full = count_at_end _ _ _ _ c.self.invariant.0 at_end in
    let room = rw (← c.self.view_is) at c.requires in
    let below : length c.self.inside.entries.items < max_capacity = omega (arith, c.self.invariant.0.counted) in
    let next : c.self.inside.next ≡ next_id c.args.self.now.order = rw (← c.self.view_is) (next_is _ _ _ _ c.self.invariant.0) in
    let sound = invariant_of-self g c in
    Holds-made _ _ c.args.value c.at.result
    (rw (← c.self.view_is) c.self.invariant.0.ordered) (rw (← c.self.view_is) c.self.invariant.0.belongs) (c.at.ensures ∙ next)
    (rw (c.push_reserved.ensures.last, c.max-self-inside.ensures, ← c.self.view_is)
    (pushed_order _ _ _ c.self.inside.fresh c.args.value c.self.invariant.0 at_end below))
    (rw (c.push_reserved.ensures.last, ← c.self.view_is)
    (pushed_live _ _ _ c.self.inside.fresh c.args.value c.self.invariant.0 at_end))
    (IsSlab-sound _ _ _ _ _ sound.0 sound.1)

pub invariant_of-self-in-Vacant : goal.invariant_of-self-in-Vacant
invariant_of-self-in-Vacant g c =
    let before : c.self.inside.next ≢ length c.self.inside.entries.items = λ same. omega arith in
    let vacant = c.index_mut.ensures.item ∙ ap Some (sym c.replace.ensures.value ∙ c.in-Vacant.is) in
    let as_long = length-set c.self.inside.entries.items c.self.inside.next (Occupied c.args.value) in
    rw (c.replace.ensures.after, c.max-self-inside.ensures)
    (filled _ _ _ c.self.inside.fresh _ c.args.value c.self.invariant.0 before vacant, omega (arith, c.self.invariant.1))

pub returns-clause-holds : goal.returns-clause-holds
returns-clause-holds g c =
    let before : c.self.inside.next ≢ length c.self.inside.entries.items = λ same. omega arith in
    let vacant = c.index_mut.ensures.item ∙ ap Some (sym c.replace.ensures.value ∙ c.in-Vacant.is) in
    let next : c.self.inside.next ≡ next_id c.args.self.now.order = rw (← c.self.view_is) (next_is _ _ _ _ c.self.invariant.0) in
    let as_long = length-set c.self.inside.entries.items c.self.inside.next (Occupied c.args.value) in
    Holds-made _ _ c.args.value c.at-2.result
    (rw (← c.self.view_is) c.self.invariant.0.ordered) (rw (← c.self.view_is) c.self.invariant.0.belongs) (c.at-2.ensures ∙ next)
    (rw (c.replace.ensures.after, c.max-self-inside.ensures, ← c.self.view_is)
    (filled_order _ _ _ c.self.inside.fresh _ c.args.value c.self.invariant.0 before vacant))
    (rw (c.replace.ensures.after, ← c.self.view_is)
    (filled_live _ _ _ c.self.inside.fresh c.args.value c.self.invariant.0 before))
    (rw (c.replace.ensures.after, c.max-self-inside.ensures)
    (IsSlab-sound _ _ _ _ c.self.inside.entries.capacity
    (filled _ _ _ c.self.inside.fresh _ c.args.value c.self.invariant.0 before vacant)
    (omega (arith, c.self.invariant.1))))
