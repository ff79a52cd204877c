use Rattle.std.proofs.Common.{ℕ, ◌≡◌, ◌+◌, ◌*◌, ◌++◌, List, [], sym, ap, subst, ◌∙◌}
use Rattle.std.specs.Iterator.{YieldsFirst}
use Rattle.wic_bitset.specs.Rising.{members_between}
use Rattle.wic_bitset.proofs.WalkFacts.{walk_end, walk_gives, walk_goes, walk_next, walk_some}
use Rattle.wic_bitset.proofs.walk.WalkIterator.next.Goals as goal

pub returns-in_err-k-clause-steps : goal.returns-in_err-k-clause-steps
returns-in_err-k-clause-steps g c =
    let it = c.self.inside in
    let w = g.T.ScalarBitSetStorage.width in
    let some = g.T.ScalarBitSetStorage.width_within.positive in
    let rest = members_between it.words.now.members (it.next * w) (it.words.now.count * w) in
    let end = walk_end w it.words.now _ _ c.self.invariant.1 some it.next c.in_err-k.ensures in
    let old : c.args.self.now ≡ [] = sym c.self.view_is ∙ ap (λ xs. xs ++ rest) c.in_default.ensures.steps.0 ∙ end in
    let new : c.next.new.self ++ rest ≡ [] = ap (λ xs. xs ++ rest) c.in_default.ensures.steps.1 ∙ end in
    subst (λ r. YieldsFirst {S = List ℕ} {A = ℕ} (λ xs. xs) c.args.self.now r (c.next.new.self ++ rest)) (sym c.from_residual.ensures)
    (old, new)

pub returns-clause-steps : goal.returns-clause-steps
returns-clause-steps g c =
    let it = c.self.inside in
    let w = g.T.ScalarBitSetStorage.width in
    let some = g.T.ScalarBitSetStorage.width_within.positive in
    let words = it.words.now in
    let k = c.in_ok-k.k in
    let rest = members_between words.members (it.next * w) (words.count * w) in
    let word = c.iter_word-self-inside.ensures.members in
    walk_gives c.args.self.now c.iter_word-self-inside.result (members_between words.members ((k + 1) * w) (words.count * w))
    c.next-2.new.self c.next-2.result
    (sym c.self.view_is ∙ ap (λ xs. xs ++ rest) c.in_default.ensures.steps.0
    ∙ walk_next w words _ _ c.self.invariant.1 some it.next k c.in_ok-k.ensures
    ∙ ap (λ xs. xs ++ members_between words.members ((k + 1) * w) (words.count * w)) (sym word))
    (λ none. walk_some w words _ _ c.self.invariant.1 some it.next k c.in_ok-k.ensures (sym word ∙ none))
    c.next-2.ensures.steps

pub returns-clause-goes : goal.returns-clause-goes
returns-clause-goes g c = walk_goes _ c.args.self.now _ c.next-2.result (λ _. tt) (returns-clause-steps g c)
