use Rattle.std.proofs.Common.{◌≢◌, ap, arith, refl, sym, subst}
use Rattle.gen_slab.specs.GenSlab.{GenState, IsCounted, KeepsGone, KeepsLive, last_count}
use Rattle.gen_slab.proofs.KeptFacts.{next_made, keeps_next, keeps_gone_next}
use Rattle.gen_slab.proofs.StaleFacts.{counted_live, counted_next}
use Rattle.gen_slab.proofs.slab.GenerationalSlab.alloc.Goals as goal

pub invariant_of-self : goal.invariant_of-self
invariant_of-self g c =
    let old : GenState g.row.T.Denot =
    record { live = c.self.inside.slab.live; order = c.self.inside.slab.order; count = c.self.inside.count } in
    let new = c.alloc.new.self in
    counted_live old new.live new.order old.count (ap (λ s. s.live) c.in-Err.ensures.refusal_leaves) refl c.self.invariant

pub invariant_of-self-2 : goal.invariant_of-self-2
invariant_of-self-2 g c =
    let old : GenState g.row.T.Denot =
    record { live = c.self.inside.slab.live; order = c.self.inside.slab.order; count = c.self.inside.count } in
    let new : GenState g.row.T.Denot =
    record { live = c.alloc.new.self.live; order = c.alloc.new.self.order; count = c.self.inside.count } in
    let holds = c.in-Ok.ensures.holds in
    subst IsCounted (sym (next_made old new c.args.value holds.live holds.order refl)) (counted_next old c.args.value c.self.invariant)

pub returns-clause-keeps : goal.returns-clause-keeps
returns-clause-keeps g c =
    let old : GenState g.row.T.Denot =
    record { live = c.self.inside.slab.live; order = c.self.inside.slab.order; count = c.self.inside.count } in
    let new : GenState g.row.T.Denot =
    record { live = c.alloc.new.self.live; order = c.alloc.new.self.order; count = c.self.inside.count } in
    let holds = c.in-Ok.ensures.holds in
    subst (λ s. KeepsLive s.state new) c.self.view_is
    (keeps_next old new c.args.value holds.belonged (next_made old new c.args.value holds.live holds.order refl))

pub returns-clause-keeps_gone : goal.returns-clause-keeps_gone
returns-clause-keeps_gone g c =
    let old : GenState g.row.T.Denot =
    record { live = c.self.inside.slab.live; order = c.self.inside.slab.order; count = c.self.inside.count } in
    let new : GenState g.row.T.Denot =
    record { live = c.alloc.new.self.live; order = c.alloc.new.self.order; count = c.self.inside.count } in
    let holds = c.in-Ok.ensures.holds in
    let apart : old.count ≢ last_count = λ same. omega arith in
    subst (λ s. KeepsGone s.state new) c.self.view_is
    (keeps_gone_next old new c.args.value apart (next_made old new c.args.value holds.live holds.order refl))

pub returns-clause-sound : goal.returns-clause-sound
returns-clause-sound g c =
    let slab = c.in-Ok.ensures.holds.is_slab in
    record { ordered = slab.ordered; belongs = slab.belongs; counts = invariant_of-self-2 g c }
