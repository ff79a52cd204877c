use Rattle.std.proofs.Common.{◌≡◌, refl, sym, ap, ◌∙◌, arith, length-set}
use Rattle.std.proofs.lemmas.Option.{slice_get_within}
use Rattle.wic_slab.specs.declared.slab.Entry.TheVariants.{Occupied}
use Rattle.wic_slab.specs.Entry.{value_of}
use Rattle.wic_base.proofs.MapFacts.{value_at_key}
use Rattle.wic_slab.proofs.EntryFacts.{occupied_at}
use Rattle.wic_slab.proofs.SoundFacts.{rewritten, rewritten_view}
use Rattle.wic_slab.proofs.slab.Slab.value_mut.Goals as goal

pub invariant_of-self-lent : goal.invariant_of-self-lent
invariant_of-self-lent g c w =
    let found = value_at_key _ _ (rw (← c.self.view_is) at c.requires) in
    let as_long = length-set c.self.inside.entries.items c.args.id (Occupied w) in
    rw c.place.ensures.place (
      rewritten _ _ _ c.self.inside.fresh c.args.id found.0 w c.self.invariant.0 found.1,
      omega (arith, c.self.invariant.1),
    )

pub index_mut-requires : goal.index_mut-requires
index_mut-requires g c =
    let found = value_at_key _ _ (rw (← c.self.view_is) at c.requires) in
    rw c.place.ensures.place (slice_get_within c.self.inside.entries.items c.args.id _
    (occupied_at c.self.inside.entries.items c.args.id found.0 found.1))

pub value_mut-requires : goal.value_mut-requires
value_mut-requires g c =
    let found = value_at_key _ _ (rw (← c.self.view_is) at c.requires) in
    let occupied = occupied_at c.self.inside.entries.items c.args.id found.0 found.1 in
    let read = rw c.place.ensures.place at c.index_mut.ensures.item in
    let entry : c.index_mut.result.now ≡ Occupied found.0 = cc (occupied, read) in
    rw entry refl

pub returns : goal.returns
returns g c =
    let found = value_at_key _ _ (rw (← c.self.view_is) at c.requires) in
    let occupied = occupied_at c.self.inside.entries.items c.args.id found.0 found.1 in
    let read = rw c.place.ensures.place at c.index_mut.ensures.item in
    let entry : c.index_mut.result.now ≡ Occupied found.0 = cc (occupied, read) in (
      (
        refl,
        λ w. rw (c.place.ensures.place, ← c.self.view_is)
            (rewritten_view _ _ _ c.self.inside.fresh c.args.id _ found.0 w c.self.invariant.0 found.1),
      ),
      record { writes_back = tt; value = rw (← c.self.view_is) (found.1 ∙ ap value_of (sym entry) ∙ c.value_mut.ensures.value) },
    )
