use Rattle.std.proofs.Common.{◌≡◌, ◌≤◌, ℕ, length, sym, subst, true≢false}
use Rattle.batch_core.specs.Back.{back}
use Rattle.batch_core.proofs.BackFacts.{back_after}
use Rattle.batch_core.specs.Workspace.{KeepsWithin}
use Rattle.batch_core.proofs.RunFacts.{step_has_room}
use Rattle.batch_core.proofs.ReadyFacts.{ready_kept, ready_done}
use Rattle.batch_core.proofs.workspace.Workspace.step.Goals as goal

pub invariant_of-self : goal.invariant_of-self
invariant_of-self g c =
    let kept = c.in-Err.ensures.err in
    ready_kept c.self.inside.store c.perform.new.self kept.contents kept.records c.perform.ensures.room c.perform.ensures.grows
    c.self.invariant

pub invariant_of-self-2 : goal.invariant_of-self-2
invariant_of-self-2 g c =
    ready_done c.self.inside.store c.perform.new.self c.args.command c.in_default-perform.ensures.ok (sym c.in_default.ensures.cause)
    c.mark.ensures.within c.mark.ensures.sound c.perform.ensures.room c.perform.ensures.grows c.self.invariant

pub returns-clause-back : goal.returns-clause-back
returns-clause-back g c =
    let done = c.in_default-perform.ensures.ok in
    let s = c.self.inside.store in
    let new = c.perform.new.self in
    subst (λ v. (mark : ℕ) → mark ≤ length v.records → back new.contents new.records mark ≡ back v.contents v.records mark) c.self.view_is
    (back_after s.contents new.contents c.args.command s.records new.records c.mark.ensures.sound (sym c.in_default.ensures.cause)
    done.effect done.records)

pub returns-in-Err-clause-never_refused_within : goal.returns-in-Err-clause-never_refused_within
returns-in-Err-clause-never_refused_within g c none keeps =
    let room = step_has_room c.self.inside.store c.args.command c.self.invariant c.mark.ensures.within (sym c.in_default.ensures.cause)
    (subst (λ v. KeepsWithin v c.args.command) (sym c.self.view_is) keeps) in
    absurd (true≢false (sym (c.in-Err.ensures.never_refused_within room)))
