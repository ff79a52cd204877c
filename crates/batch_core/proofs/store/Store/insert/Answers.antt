use Rattle.std.proofs.Common.{ap, arith}
use Rattle.wic_base.proofs.SetFacts.{there_after_insert}
use Rattle.batch_core.proofs.store.Store.insert.Goals as goal

pub returns-in_err-was_new-clause-never_refused_within : goal.returns-in_err-was_new-clause-never_refused_within
returns-in_err-was_new-clause-never_refused_within g c room =
    let number = c.args.number in
    let here = there_after_insert c.args.self.now.contents.set number in
    let capacity = ap (λ v. v.capacities.set) c.self.view_is in
    absurd (omega (arith, room number here, capacity, c.in_err-was_new.ensures.refused_only_beyond))
