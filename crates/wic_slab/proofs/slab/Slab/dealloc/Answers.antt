use Rattle.std.proofs.Common.{Some, refl, sym, ap, ◌∙◌, arith, length-set}
use Rattle.std.proofs.lemmas.Option.{slice_get_within}
use Rattle.wic_slab.specs.declared.slab.Entry.TheVariants.{Vacant}
use Rattle.wic_base.proofs.MapFacts.{value_at_key, len_positive_from_key}
use Rattle.wic_slab.proofs.EntryFacts.{occupied_at, get-occupied, live_of-vacant}
use Rattle.wic_slab.proofs.SoundFacts.{vacated, vacated_order, IsSlab-sound}
use Rattle.wic_slab.proofs.StepFacts.{GivesBack-made}
use Rattle.wic_slab.proofs.slab.Slab.dealloc.Goals as goal

pub overflow_sub-self : goal.overflow_sub-self
overflow_sub-self g c =
    let live = rw (← c.self.view_is) at c.requires in
    omega (arith, c.self.invariant.0.counted, len_positive_from_key _ _ live)

pub invariant_of-self : goal.invariant_of-self
invariant_of-self g c =
    let live = rw (← c.self.view_is) at c.requires in
    let found = value_at_key _ _ live in
    let as_long = length-set c.self.inside.entries.items c.args.id (Vacant c.self.inside.next) in
    rw (c.replace.ensures.after, c.fresh_after-self-inside.ensures, c.into_raw-place.ensures.number)
    (vacated _ _ _ c.self.inside.fresh c.args.id found.0 c.self.invariant.0 found.1, omega (arith, c.self.invariant.1))

pub unreachable-requires : goal.unreachable-requires
unreachable-requires g c =
    let live = rw (← c.self.view_is) at c.requires in
    let found = value_at_key _ _ live in
    let occupied = occupied_at c.self.inside.entries.items c.args.id found.0 found.1 in
    let vacant = rw c.into_raw-place.ensures.number at
    (c.index_mut.ensures.item ∙ ap Some (sym c.replace.ensures.value ∙ c.in-Vacant.is)) in
    cc (occupied, vacant)

pub returns-clause-value : goal.returns-clause-value
returns-clause-value g c =
    let occupied = rw c.into_raw-place.ensures.number at
    (c.index_mut.ensures.item ∙ ap Some (sym c.replace.ensures.value ∙ c.in-Occupied.is)) in
    rw (← c.self.view_is) (get-occupied c.self.inside.entries.items c.args.id c.in-Occupied.value occupied)

pub returns-clause-gives_back : goal.returns-clause-gives_back
returns-clause-gives_back g c =
    let live = rw (← c.self.view_is) at c.requires in
    let found = value_at_key _ _ live in
    let occupied = occupied_at c.self.inside.entries.items c.args.id found.0 found.1 in
    let within = slice_get_within c.self.inside.entries.items c.args.id _ occupied in
    let sound = invariant_of-self g c in
    GivesBack-made _ _ c.args.id
    (rw (← c.self.view_is) c.self.invariant.0.ordered) (rw (← c.self.view_is) c.self.invariant.0.belongs) c.requires
    (rw (c.replace.ensures.after, c.fresh_after-self-inside.ensures, c.into_raw-place.ensures.number, ← c.self.view_is)
    (vacated_order _ _ _ c.self.inside.fresh c.args.id found.0 c.self.invariant.0 found.1))
    (rw (c.replace.ensures.after, c.into_raw-place.ensures.number, ← c.self.view_is)
    (live_of-vacant c.self.inside.entries.items c.args.id c.self.inside.next within))
    (rw (← c.self.view_is) refl)
    (IsSlab-sound _ _ _ _ _ sound.0 sound.1)
