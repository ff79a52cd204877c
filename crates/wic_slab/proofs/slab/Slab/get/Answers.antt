use Rattle.std.proofs.Common.{◌≡◌, Some, None, is_some, slice_get, sym, ap, ◌∙◌, true≢false, refl}
use Rattle.wic_slab.specs.declared.slab.Entry.TheVariants.{Vacant, Occupied}
use Rattle.wic_slab.proofs.EntryFacts.{get-occupied, get-vacant, get-past}
use Rattle.wic_slab.proofs.slab.Slab.get.Goals as goal

pub returns-in-Some-Occupied-clause-value : goal.returns-in-Some-Occupied-clause-value
returns-in-Some-Occupied-clause-value g c =
    let read : slice_get c.self.inside.entries.items c.args.id ≡ Some (Occupied c.in-Some-Occupied.value) =
    rw (← c.place.ensures.place) (sym (rw c.in-Some-Occupied.is at c.get.ensures.item) ∙ ap Some c.in-Some-Occupied.field-0-is) in
    rw (← c.self.view_is) (sym (get-occupied c.self.inside.entries.items c.args.id _ read))

pub returns-in-Some-Occupied-clause-live : goal.returns-in-Some-Occupied-clause-live
returns-in-Some-Occupied-clause-live g c =
    (λ _. ap is_some (sym (returns-in-Some-Occupied-clause-value g c)), λ _. refl)

pub returns-in-Some-Vacant-clause-value : goal.returns-in-Some-Vacant-clause-value
returns-in-Some-Vacant-clause-value g c =
    let read : slice_get c.self.inside.entries.items c.args.id ≡ Some (Vacant c.in-Some-Vacant.field-0-0) =
    rw (← c.place.ensures.place) (sym (rw c.in-Some-Vacant.is at c.get.ensures.item) ∙ ap Some c.in-Some-Vacant.field-0-is) in
    rw (← c.self.view_is) (sym (get-vacant c.self.inside.entries.items c.args.id _ read))

pub returns-in-Some-Vacant-clause-live : goal.returns-in-Some-Vacant-clause-live
returns-in-Some-Vacant-clause-live g c =
    (λ none. absurd (true≢false (sym none)), λ live. ap is_some (returns-in-Some-Vacant-clause-value g c) ∙ live)

pub returns-in-None-clause-value : goal.returns-in-None-clause-value
returns-in-None-clause-value g c =
    let read : slice_get c.self.inside.entries.items c.args.id ≡ None =
    rw (← c.place.ensures.place) (sym (rw c.in-None.is at c.get.ensures.item)) in
    rw (← c.self.view_is) (sym (get-past c.self.inside.entries.items c.args.id read))

pub returns-in-None-clause-live : goal.returns-in-None-clause-live
returns-in-None-clause-live g c =
    (λ none. absurd (true≢false (sym none)), λ live. ap is_some (returns-in-None-clause-value g c) ∙ live)
