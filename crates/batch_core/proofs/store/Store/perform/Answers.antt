use Rattle.std.proofs.Common.{sym, subst, true≢false}
use Rattle.std.specs.Prelude.{IsOk}
use Rattle.wic_base.specs.Sets.{AllBelow}
use Rattle.batch_core.specs.Command.{effect_of}
use Rattle.batch_core.specs.declared.command.Command.TheVariants.{Insert}
use Rattle.batch_core.proofs.store.Store.perform.Goals as goal

pub returns-in_err-insert-in-Insert-clause-never_refused_within : goal.returns-in_err-insert-in-Insert-clause-never_refused_within
returns-in_err-insert-in-Insert-clause-never_refused_within g c room =
    let s = c.args.self.now in
    let below = subst (λ command. AllBelow s.capacities.set (effect_of s.contents command).set) c.in-Insert.is room.set in
    let ok = c.insert.ensures.never_refused_within
    (subst (λ v. AllBelow v.capacities.set (effect_of v.contents (Insert c.in-Insert.number)).set) (sym c.self.view_is) below) in
    absurd (true≢false (sym (subst IsOk c.in_err-insert-in-Insert.was ok)))
