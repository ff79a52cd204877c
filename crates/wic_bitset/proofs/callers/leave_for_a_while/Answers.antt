use Rattle.std.proofs.Common.{◌≡◌, ◌*◌, ◌<◌, Result, Ok, Err, true, sym, ap, subst, ◌∙◌}
use Rattle.std.specs.Prelude.{IsOk, OnOk}
use Rattle.std.specs.FinSet.{contains, insert}
use Rattle.wic_base.proofs.SetFacts.{insert-remove}
use Rattle.wic_bitset.specs.Compound.{Compound}
use Rattle.wic_bitset.proofs.callers.leave_for_a_while.Goals as goal

-- two sets in words are the same if their parts are
same_compound : (s t : Compound) → s.members ≡ t.members → s.words ≡ t.words → s ≡ t
same_compound s t members words = λ j. record { members = members j; words = words j }

-- what holds on Ok, if it is Ok
on_ok : {T E P : Type 0} (r : Result T E) → IsOk r → OnOk r P → P
on_ok (Ok x) ok p = p
on_ok (Err e) ok p = absurd (cc)

pub returns-then-contains : goal.returns-then-contains
returns-then-contains g c =
    let s = c.args.set.now.members in
    let i = c.args.i in
    let there : contains s i ≡ true = sym c.contains.ensures.member ∙ c.if-contains.true in
    let below = subst (λ n. i < n * g.T.ScalarBitSetStorage.width) (sym c.remove.ensures.words)
    (c.contains.ensures.below c.if-contains.true) in
    same_compound _ _
    (on_ok c.insert.result (c.insert.ensures.never_refused_below below) c.insert.ensures.members
    ∙ ap (λ t. insert t i) c.remove.ensures.members ∙ insert-remove s i there)
    (c.insert.ensures.words_kept_below below ∙ c.remove.ensures.words)
