use Rattle.std.proofs.Common.{◌≡◌, ◌<◌, ap, subst, ◌∙◌}
use Rattle.std.specs.Prelude.{max}
use Rattle.batch_core.specs.declared.command.End.TheVariants.{Commit}
use Rattle.batch_core.proofs.RunFacts.{short_beyond, never_refused, never_refused_at_all, refused_kept}
use Rattle.batch_nest.specs.Nest.{command_lines, begin_lines, nest_course, nest_places}
use Rattle.batch_nest.proofs.space.NestSpace.apply_body.Goals as goal

pub returns-in-Err-clause-applied : goal.returns-in-Err-clause-applied
returns-in-Err-clause-applied g c body is =
    let counts = c.counts_of in
    let commands = counts.ensures.commands ∙ ap command_lines is in
    let begins = counts.ensures.begins ∙ ap begin_lines is in
    let places : max counts.result.commands counts.result.begins ≡ nest_places body = λ i. max (commands i) (begins i) in (
      c.begin.ensures.contents ∙ ap (λ w. w.contents) c.self.view_is,
      c.begin.ensures.records,
      subst (λ w. w.room < nest_places body) c.self.view_is
          (subst (λ k. c.self.inside.levels.workspace.room < k) places (c.in-Err.ensures.refused_only_beyond c.self.invariant)),
    )

pub returns-in-Err-clause-never_oom_within : goal.returns-in-Err-clause-never_oom_within
returns-in-Err-clause-never_oom_within g c body is fits oom =
    let now = c.args.self.now in
    short_beyond now.room (nest_places body) (nest_course now.contents body).stands 0 (returns-in-Err-clause-applied g c body is).2 fits

pub returns-in-Err-clause-never_refused_within : goal.returns-in-Err-clause-never_refused_within
returns-in-Err-clause-never_refused_within g c body is fits none =
    let now = c.args.self.now in
    absurd (short_beyond now.room (nest_places body) (nest_course now.contents body).stands 0
    (returns-in-Err-clause-applied g c body is).2 fits)

pub returns-in-Err-run-clause-never_oom_within : goal.returns-in-Err-run-clause-never_oom_within
returns-in-Err-run-clause-never_oom_within g c body is fits =
    let now = c.args.self.now in
    let r = c.in-Err-run.refusal in
    never_refused now.room (nest_places body) now.contents (nest_course now.contents body) Commit r.cause r.at
    (refused_kept (nest_places body) (λ k. nest_course k body) Commit r.cause r.at
    (c.begin.ensures.room ∙ ap (λ w. w.room) c.self.view_is) (c.begin.ensures.contents ∙ ap (λ w. w.contents) c.self.view_is)
    (c.in-Err-run.ensures.refused body is Commit)) fits

pub returns-in-Err-run-clause-never_refused_within :
    goal.returns-in-Err-run-clause-never_refused_within
returns-in-Err-run-clause-never_refused_within g c body is fits none =
    let now = c.args.self.now in
    let r = c.in-Err-run.refusal in
    absurd (never_refused_at_all now.room (nest_places body) now.contents (nest_course now.contents body) Commit r.cause r.at
    (refused_kept (nest_places body) (λ k. nest_course k body) Commit r.cause r.at
    (c.begin.ensures.room ∙ ap (λ w. w.room) c.self.view_is) (c.begin.ensures.contents ∙ ap (λ w. w.contents) c.self.view_is)
    (c.in-Err-run.ensures.refused body is Commit)) fits none)
