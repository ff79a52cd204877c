use Rattle.std.proofs.Common.{◌≡◌, ap, arith}
use Rattle.std.specs.FinMap.{insert, len}
use Rattle.wic_slab.specs.Order.{next_id}
use Rattle.batch_core.proofs.BackFacts.{alloc_adds}
use Rattle.batch_core.proofs.store.Store.alloc.Goals as goal

pub returns-in_err-id-clause-never_refused_within : goal.returns-in_err-id-clause-never_refused_within
returns-in_err-id-clause-never_refused_within g c room =
    let table = c.self.inside.table in
    let view = c.self.view_is in
    let value = c.args.value in
    let adds = alloc_adds
    (record { list = c.self.inside.list.items; set = c.self.inside.set.members; live = table.live; order = table.order }) value
    c.len.ensures.sound.belongs in
    let same = ap (λ v. len (insert v.contents.live (next_id v.contents.order) value)) view in
    let capacity = ap (λ v. v.capacities.table) view in
    let full : len table.live ≡ table.capacity = c.in_err-id.ensures.refused_only_full in
    absurd (omega (arith, adds, same, capacity, full, room))
