use Rattle.std.proofs.Common.{length, refl, ap, inl, arith}
use Rattle.wic_base.proofs.MapFacts.{entries_first}
use Rattle.wic_slab.proofs.DrainFacts.{entries_left, NoneOutside-removed}
use Rattle.wic_slab.proofs.drain.DrainIterator.next.Goals as goal

pub at-id-requires : goal.at-id-requires
at-id-requires g c = omega (arith, c.loop-self.invariant.1)

pub returns-then-contains-clause-steps : goal.returns-then-contains-clause-steps
returns-then-contains-clause-steps g c =
    let at = c.loop-self.self in
    let kept = c.loop-self.invariant in
    let here = c.at-id.ensures in
    let first = entries_first at.slab.now.live at.place c.dealloc.result (λ q below. kept.2 q (inl below))
    (rw here at c.dealloc.ensures.value) in
    let ready = NoneOutside-removed at.slab.now.live at.place at.end kept.2 in
    rw (← kept.0) (
      rw (c.dealloc.ensures.gives_back.live, here) first,
      (refl, c.dealloc.ensures.gives_back.capacity_stays),
      rw (c.dealloc.ensures.gives_back.live, here) ready,
    )

pub returns-then-contains-clause-goes : goal.returns-then-contains-clause-goes
returns-then-contains-clause-goes g c =
    let at = c.loop-self.self in
    let kept = c.loop-self.invariant in
    let steps = returns-then-contains-clause-steps g c in
    let fewer = ap length steps.0 in
    record { on = λ finite. (steps.2, finite, omega arith); keeps = steps.2; rests = λ _. tt }

pub returns-clause-steps : goal.returns-clause-steps
returns-clause-steps g c =
    let at = c.loop-self.self in
    let kept = c.loop-self.invariant in
    let none = entries_left at.slab.now.live at.place at.end c.loop-self-test.false kept.2 in
    ((rw (← kept.0) none, none), rw (← kept.0) (refl, refl), kept.2)
