use Rattle.std.proofs.Common.{ap, arith, length}
use Rattle.batch_core.proofs.BackFacts.{count_cuts}
use Rattle.batch_core.proofs.store.Store.truncate.Goals as goal

pub returns-in-None-clause-never_refused_within : goal.returns-in-None-clause-never_refused_within
returns-in-None-clause-never_refused_within g c room =
    let count = count_cuts c.args.self.now.contents c.args.kept in
    let list = ap (λ v. length v.contents.list) c.self.view_is in
    let capacity = ap (λ v. v.capacities.records) c.self.view_is in
    absurd (omega (arith, count, list, capacity, room.records, c.in-None.ensures, c.capacity.ensures.capacity))
