use Rattle.std.proofs.Common.{◌≡◌, arith, is_some, subst, sym, true}
use Rattle.gen_slab.specs.GenSlab.{GenState, IsCounted, KeepsGone, KeepsOthers, value_of}
use Rattle.gen_slab.proofs.StaleFacts.{counted_without}
use Rattle.gen_slab.proofs.KeptFacts.{without_made, keeps_without, keeps_gone_without}
use Rattle.gen_slab.proofs.slab.GenerationalSlab.dealloc.Goals as goal

pub invariant_of-self : goal.invariant_of-self
invariant_of-self g c =
    let old : GenState g.row.T.Denot =
    record { live = c.self.inside.slab.live; order = c.self.inside.slab.order; count = c.self.inside.count } in
    let given = c.dealloc-value.new.self in
    let new : GenState g.row.T.Denot = record { live = given.live; order = given.order; count = c.min-self-inside.result } in
    let gives = c.dealloc-value.ensures.gives_back in
    let made = without_made old new _ c.args.handle c.handle.view_is gives.live gives.order (omega arith) in
    subst IsCounted (sym made) (counted_without old c.args.handle c.self.invariant)

pub returns-clause-keeps : goal.returns-clause-keeps
returns-clause-keeps g c =
    let old : GenState g.row.T.Denot =
    record { live = c.self.inside.slab.live; order = c.self.inside.slab.order; count = c.self.inside.count } in
    let given = c.dealloc-value.new.self in
    let new : GenState g.row.T.Denot = record { live = given.live; order = given.order; count = c.min-self-inside.result } in
    let gives = c.dealloc-value.ensures.gives_back in
    let made = without_made old new _ c.args.handle c.handle.view_is gives.live gives.order (omega arith) in
    let some : is_some (value_of c.args.self.now.state c.args.handle) ≡ true = cc in
    subst (λ s. KeepsOthers c.args.handle s.state new) c.self.view_is
    (keeps_without old new c.args.handle (subst (λ s. is_some (value_of s.state c.args.handle) ≡ true) (sym c.self.view_is) some) made)

pub returns-clause-keeps_gone : goal.returns-clause-keeps_gone
returns-clause-keeps_gone g c =
    let old : GenState g.row.T.Denot =
    record { live = c.self.inside.slab.live; order = c.self.inside.slab.order; count = c.self.inside.count } in
    let given = c.dealloc-value.new.self in
    let new : GenState g.row.T.Denot = record { live = given.live; order = given.order; count = c.min-self-inside.result } in
    let gives = c.dealloc-value.ensures.gives_back in
    let made = without_made old new _ c.args.handle c.handle.view_is gives.live gives.order (omega arith) in
    subst (λ s. KeepsGone s.state new) c.self.view_is (keeps_gone_without old new c.args.handle c.self.invariant made)

pub returns-clause-sound : goal.returns-clause-sound
returns-clause-sound g c =
    let slab = c.dealloc-value.ensures.gives_back.is_slab in
    record { ordered = slab.ordered; belongs = slab.belongs; counts = invariant_of-self g c }
