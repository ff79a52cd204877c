use Rattle.std.proofs.Common.{rules, ◌≡◌, [], None, IfErr, OnErr, IsOk, sym, ap, subst, refl, ◌∙◌, ◌≤◌, length}
use Rattle.batch_core.specs.Applied.{IsApplied}
use Rattle.batch_core.specs.Course.{batch_course, course_of, places_of}
use Rattle.batch_core.specs.Batch.{first_bad, unless_bad, ended, aborted}
use Rattle.batch_core.specs.Workspace.{IsOom}
use Rattle.batch_core.proofs.RunFacts.{fits_kept, refused_kept}
use Rattle.batch_core.proofs.workspace.Workspace.apply_begun.Goals as goal
use Rattle.batch_core.proofs.workspace.Workspace.apply_begun.Goals.{in-Err, in-Ok+in-Abort}

pub returns-clause-at_from_one : goal.returns-clause-at_from_one
returns-clause-at_from_one g c =
    elim c.match-run.branch [
      | in-Err w ↦ subst (λ x. IfErr x (λ r. 1 ≤ r.at)) (sym w.given_up-is) w.in-Err.ensures.at_from_one
      | in-Ok+in-Abort w ↦ subst (λ x. IfErr x (λ r. 1 ≤ r.at)) (sym w.given_up-is) tt
    ]

pub returns-clause-at_within : goal.returns-clause-at_within
returns-clause-at_within g c =
    elim c.match-run.branch [
      | in-Err w ↦ subst (λ x. IfErr x (λ r. r.at ≤ length c.args.batch.commands.items)) (sym w.given_up-is) w.in-Err.ensures.at_within
      | in-Ok+in-Abort w ↦ subst (λ x. IfErr x (λ r. r.at ≤ length c.args.batch.commands.items)) (sym w.given_up-is) tt
    ]

pub returns-clause-never_oom_within : goal.returns-clause-never_oom_within
returns-clause-never_oom_within g c fits =
    let begun = c.get_mut.ensures.held ∙ c.new-guard.ensures.holds ∙ c.taken_out-held.ensures.held in
    elim c.match-run.branch [
      | in-Err w ↦ subst (λ x. IfErr x (λ r. ¬ IsOom r.cause)) (sym w.given_up-is) (w.in-Err.ensures.never_oom_within
          (fits_kept (places_of c.args.batch) (λ k. batch_course k c.args.batch.commands.items)
          (ap (λ w. w.room) begun) (ap (λ w. w.contents) begun) fits))
      | in-Ok+in-Abort w ↦ subst (λ x. IfErr x (λ r. ¬ IsOom r.cause)) (sym w.given_up-is) tt
    ]

pub returns-clause-never_refused_within : goal.returns-clause-never_refused_within
returns-clause-never_refused_within g c fits none =
    let begun = c.get_mut.ensures.held ∙ c.new-guard.ensures.holds ∙ c.taken_out-held.ensures.held in
    let contents = ap (λ w. w.contents) begun in
    elim c.match-run.branch [
      | in-Err w ↦ absurd (let never = w.in-Err.ensures.never_refused_within
          (fits_kept (places_of c.args.batch) (λ k. batch_course k c.args.batch.commands.items)
          (ap (λ w. w.room) begun) contents fits)
          (subst (λ k. first_bad (batch_course k c.args.batch.commands.items).stands ≡ None) (sym contents) none) in cc)
      | in-Ok+in-Abort w ↦ subst IsOk (sym w.given_up-is) refl
    ]

pub returns-clause-refusal_leaves : goal.returns-clause-refusal_leaves
returns-clause-refusal_leaves g c =
    let contents : c.take_in-2.new.self.contents ≡ c.args.self.now.contents = search rules in
    elim c.match-run.branch [
      | in-Err w ↦ subst (λ r. OnErr r (c.take_in-2.new.self.contents ≡ c.args.self.now.contents)) (sym w.given_up-is) contents
      | in-Ok+in-Abort w ↦ subst (λ r. OnErr r (c.take_in-2.new.self.contents ≡ c.args.self.now.contents)) (sym w.given_up-is) tt
    ]

pub returns-clause-applied : goal.returns-clause-applied
returns-clause-applied g c =
    let begun = c.get_mut.ensures.held ∙ c.new-guard.ensures.holds ∙ c.taken_out-held.ensures.held in
    let contents : c.take_in-2.new.self.contents ≡ c.args.self.now.contents = search rules in
    let records : c.take_in-2.new.self.records ≡ [] = search rules in
    elim c.match-run.branch [
      | in-Err w ↦ subst (λ r. IsApplied c.args.self.now (places_of c.args.batch)
          (course_of c.args.self.now.contents c.args.batch) c.args.batch.end r c.take_in-2.new.self) (sym w.given_up-is) (
            contents,
            records,
            refused_kept (places_of c.args.batch) (λ k. batch_course k c.args.batch.commands.items) c.args.batch.end
                w.in-Err.refusal.cause w.in-Err.refusal.at (ap (λ w. w.room) begun) (ap (λ w. w.contents) begun)
                (w.in-Err.ensures.refused c.args.batch.end),
          )
      | in-Ok+in-Abort w ↦ subst (λ r. IsApplied c.args.self.now (places_of c.args.batch)
          (course_of c.args.self.now.contents c.args.batch) c.args.batch.end r c.take_in-2.new.self) (sym w.given_up-is) (
            let now = c.args.self.now.contents in
                let none : first_bad (course_of now c.args.batch).stands ≡ None =
                subst (λ k. first_bad (batch_course k c.args.batch.commands.items).stands ≡ None) (ap (λ w. w.contents) begun)
                w.in-Ok.ensures.not_bad in
                ap (λ o. unless_bad o now (ended now (course_of now c.args.batch) c.args.batch.end)) none
                ∙ ap (ended now (course_of now c.args.batch)) w.in-Abort.is ∙ ap (λ k. (aborted, k)) (sym contents),
            records,
          )
    ]
