use Rattle.std.proofs.Common.{◌≡◌, ◌<◌, length, inl, inr, true, false, refl, sym, ap, subst, ◌∙◌}
use Rattle.std.specs.FinSet.{contains, insert, remove}
use Rattle.std.proofs.lemmas.Bool.{not-false, not-true}
use Rattle.wic_base.proofs.SetFacts.{there_after_insert}
use Rattle.std.specs.Prelude.{slice_index}
use Rattle.entity_set.proofs.FollowFacts.{following-step, following-ends, kept_after_insert, to_do, fewer-known, fewer-new}
use Rattle.entity_set.proofs.KeysFacts.{below-insert, below-remove}
use Rattle.entity_set.proofs.callers.follow.Goals as goal

pub loop-b-smaller-in_ok-insert-2 : goal.loop-b-smaller-in_ok-insert-2
loop-b-smaller-in_ok-insert-2 c =
    let n = length c.args.jumps.now in
    let b = c.in-Some.b.0 in
    let was = c.loop-b.invariant in
    let old = to_do n c.loop-b.work.members c.loop-b.done.members in
    let to = slice_index c.args.jumps.now c.index.result in
    let on = c.in_ok-insert-2.ensures.members ∙ ap (λ s. insert s to) c.in-Some.ensures.members in
    let done = c.in_ok-insert.ensures.members in
    let isn't : contains c.loop-b.done.members b ≡ false = not-true _ (sym c.in_ok-insert.ensures.new ∙ c.if-branch.true) in
    subst (λ s. to_do n s c.insert.new.self.members < old) (sym on)
    (subst (λ s. to_do n (insert (remove c.loop-b.work.members b) to) s < old) (sym done)
    (fewer-new n b to c.loop-b.work.members c.loop-b.done.members c.in-Some.ensures.member isn't
    (below-insert n _ _ b (was.work b c.in-Some.ensures.member) refl was.done)))

pub loop-b-preserved-in_ok-insert-2 : goal.loop-b-preserved-in_ok-insert-2
loop-b-preserved-in_ok-insert-2 c =
    let n = length c.args.jumps.now in
    let b = c.in-Some.b.0 in
    let was = c.loop-b.invariant in
    let on = c.in_ok-insert-2.ensures.members
    ∙ ap (λ i. insert c.pop.new.self.members (slice_index c.args.jumps.now i)) c.index.ensures.value in
    let below = was.work b c.in-Some.ensures.member in
    record {
      way = following-step (slice_index c.args.jumps.now) _ _ _ _ _ _ b was.way c.in_ok-insert.ensures.members
          (λ q has. ap (λ s. contains s q) on
          ∙ kept_after_insert _ _ q (ap (λ s. contains s q) c.in-Some.ensures.members ∙ has))
          (inr (ap (λ s. contains s (slice_index c.args.jumps.now b)) on ∙ there_after_insert _ _));
      work = below-insert n _ _ _ (c.requires.jumps b below) on (below-remove n _ _ _ c.in-Some.ensures.members was.work);
      done = below-insert n _ _ _ below c.in_ok-insert.ensures.members was.done;
    }

pub loop-b-smaller : goal.loop-b-smaller
loop-b-smaller c =
    let n = length c.args.jumps.now in
    let b = c.in-Some.b.0 in
    let old = to_do n c.loop-b.work.members c.loop-b.done.members in
    let there : contains c.loop-b.done.members b ≡ true = not-false _ (sym c.in_ok-insert.ensures.new ∙ c.if-branch.false) in
    subst (λ s. to_do n s c.insert.new.self.members < old) (sym c.in-Some.ensures.members)
    (subst (λ s. to_do n (remove c.loop-b.work.members b) s < old) (sym c.in_ok-insert.ensures.members)
    (fewer-known n b c.loop-b.work.members c.loop-b.done.members c.in-Some.ensures.member there))

pub loop-b-preserved : goal.loop-b-preserved
loop-b-preserved c =
    let n = length c.args.jumps.now in
    let b = c.in-Some.b.0 in
    let was = c.loop-b.invariant in
    let there : contains c.loop-b.done.members b ≡ true = not-false _ (sym c.in_ok-insert.ensures.new ∙ c.if-branch.false) in
    record {
      way = following-step (slice_index c.args.jumps.now) _ _ _ _ _ _ b was.way c.in_ok-insert.ensures.members
          (λ q has. ap (λ s. contains s q) c.in-Some.ensures.members ∙ has) (inl there);
      work = below-remove n _ _ _ c.in-Some.ensures.members was.work;
      done = below-insert n _ _ _ (was.work b c.in-Some.ensures.member) c.in_ok-insert.ensures.members was.done;
    }

pub returns-clause-followed : goal.returns-clause-followed
returns-clause-followed c = following-ends _ _ _ _ _ c.loop-b.invariant.way (c.in_default.ensures.none.0 refl)
