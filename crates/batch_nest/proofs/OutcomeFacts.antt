-- What the result of a nest tells, by its end.
use Rattle.std.proofs.Common.{◌≡◌, List, Option, None, Some, Result, OnOk, OnErr, refl, sym, ap, subst}
use Rattle.std.proofs.lemmas.Result.{on_ok_weaker}
use Rattle.batch_core.specs.declared.command.End.{End}
use Rattle.std.specs.declared.result.Result.TheVariants.{Ok, Err}
use Rattle.batch_core.specs.State.{Contents}
use Rattle.batch_core.specs.Batch.{BadCommand, Outcome, committed, aborted, refused, unless_bad, first_bad, ended}
use Rattle.batch_core.specs.Course.{Course}
use Rattle.batch_core.specs.Workspace.{Workspace}
use Rattle.batch_core.specs.declared.answer.Done.{Done}
use Rattle.batch_core.specs.declared.answer.Done.TheVariants.{Committed, Aborted}
use Rattle.batch_core.specs.declared.answer.Refusal.{Refusal}
use Rattle.batch_core.specs.declared.command.End.TheVariants.{Commit, Abort}
use Rattle.batch_core.specs.declared.record.Record.{Record}
use Rattle.batch_nest.specs.Nest.{Body, nest_course}
use Rattle.batch_nest.specs.Applied.{IsNestApplied, IsThrough}

module _ {X : Type 0} where
  -- what was committed is what the course left, and no command of it is bad
  committed_is : (bad : Option BadCommand) (c : Contents X) (course : Course X) (records : List (Record X)) (after : Contents X)
      → unless_bad bad c (ended c course Commit) ≡ (committed records, after)
      → (bad ≡ None) × (records ≡ course.records) × (after ≡ course.after)
  committed_is None c course records after is =
      let same : committed course.records ≡ committed records = ap (λ p. p.0) is in (refl, cc, sym (ap (λ p. p.1) is))
  committed_is (Some bad) c course records after is =
      let differ : refused bad ≡ committed records = ap (λ p. p.0) is in absurd (cc)

  not_aborted : (bad : Option BadCommand) (c : Contents X) (course : Course X) (after : Contents X)
      → unless_bad bad c (ended c course Commit) ≡ (aborted, after) → ⊥
  not_aborted None c course after is = let differ : committed course.records ≡ aborted = ap (λ p. p.0) is in cc
  not_aborted (Some bad) c course after is = let differ : ◌≡◌ {A = Outcome X} (refused bad) aborted = ap (λ p. p.0) is in cc

  accepted_commit : (old : Workspace X) (body : Body X) (result : Result Done Refusal) (new : Workspace X)
      → IsNestApplied old body Commit result new → OnOk result (IsThrough old new body)
  accepted_commit old body (Ok Committed) new applied =
      let parts = committed_is (first_bad (nest_course old.contents body).stands) old.contents (nest_course old.contents body) new.records
      new.contents applied in
      record { not_bad = parts.0; records = parts.1; contents = parts.2 }
  accepted_commit old body (Ok Aborted) new applied =
      absurd (not_aborted (first_bad (nest_course old.contents body).stands) old.contents (nest_course old.contents body) new.contents
      applied.0)
  accepted_commit old body (Err refusal) new applied = tt

  -- an accepted nest that ends in commit leaves what its course leaves
  pub commit_leaves : (old : Workspace X) (body : Body X) (ending : End) (result : Result Done Refusal) (new : Workspace X)
      → IsNestApplied old body ending result new → ending ≡ Commit
      → OnOk result (new.contents ≡ (nest_course old.contents body).after)
  commit_leaves old body ending result new applied is =
      on_ok_weaker result (λ (through : IsThrough old new body). through.contents)
      (accepted_commit old body result new (subst (λ e. IsNestApplied old body e result new) is applied))

  -- and its records
  pub commit_records : (old : Workspace X) (body : Body X) (ending : End) (result : Result Done Refusal) (new : Workspace X)
      → IsNestApplied old body ending result new → ending ≡ Commit
      → OnOk result (new.records ≡ (nest_course old.contents body).records)
  commit_records old body ending result new applied is =
      on_ok_weaker result (λ (through : IsThrough old new body). through.records)
      (accepted_commit old body result new (subst (λ e. IsNestApplied old body e result new) is applied))

  aborted_is : (bad : Option BadCommand) (c : Contents X) (course : Course X) (outcome : Outcome X) (after : Contents X)
      → unless_bad bad c (ended c course Abort) ≡ (outcome, after) → after ≡ c
  aborted_is None c course outcome after is = sym (ap (λ p. p.1) is)
  aborted_is (Some bad) c course outcome after is = sym (ap (λ p. p.1) is)

  left_by_abort : (old : Workspace X) (body : Body X) (result : Result Done Refusal) (new : Workspace X)
      → IsNestApplied old body Abort result new → new.contents ≡ old.contents
  left_by_abort old body (Ok Committed) new applied =
      aborted_is (first_bad (nest_course old.contents body).stands) old.contents (nest_course old.contents body) _ new.contents applied
  left_by_abort old body (Ok Aborted) new applied =
      aborted_is (first_bad (nest_course old.contents body).stands) old.contents (nest_course old.contents body) _ new.contents applied.0
  left_by_abort old body (Err refusal) new applied = applied.0

  -- a nest that ends in abort leaves the contents
  pub abort_leaves : (old : Workspace X) (body : Body X) (ending : End) (result : Result Done Refusal) (new : Workspace X)
      → IsNestApplied old body ending result new → ending ≡ Abort → new.contents ≡ old.contents
  abort_leaves old body ending result new applied is =
      left_by_abort old body result new (subst (λ e. IsNestApplied old body e result new) is applied)

  -- a refused nest leaves the contents
  pub refusal_leaves : (old : Workspace X) (body : Body X) (ending : End) (result : Result Done Refusal) (new : Workspace X)
      → IsNestApplied old body ending result new → OnErr result (new.contents ≡ old.contents)
  refusal_leaves old body ending (Ok Committed) new applied = tt
  refusal_leaves old body ending (Ok Aborted) new applied = tt
  refusal_leaves old body ending (Err refusal) new applied = applied.0
