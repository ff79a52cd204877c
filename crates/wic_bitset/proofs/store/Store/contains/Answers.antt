use Rattle.std.proofs.Common.{◌≡◌, ◌/◌, ◌%◌, sym, ap, subst, ◌∙◌, Some, None, slice_get}
use Rattle.std.specs.FinSet.{contains}
use Rattle.wic_scalar.specs.Scalar.{set_of}
use Rattle.wic_bitset.proofs.WordFacts.{in_word, in_no_word}
use Rattle.wic_bitset.proofs.store.Store.contains.Goals as goal

pub returns-in-Some : goal.returns-in-Some
returns-in-Some g c =
    let w = g.T.ScalarBitSetStorage.width in
    let at = c.width-width.ensures.value in
    c.contains.ensures
    ∙ (λ j. contains (set_of w (g.T.ScalarBitSetStorage.number c.in-Some.word.now.0)) (c.args.i % at j))
    ∙ sym (in_word (λ s. g.T.ScalarBitSetStorage.number s.0) w c.args.i c.self.inside.words.items c.in-Some.word.now
    g.T.ScalarBitSetStorage.width_within.positive
    (subst (λ n. slice_get c.self.inside.words.items (c.args.i / n) ≡ Some c.in-Some.word.now) at (sym c.in-Some.ensures.item)))
    ∙ ap (λ v. contains v.members c.args.i) c.self.view_is

pub returns-in-None : goal.returns-in-None
returns-in-None g c =
    let w = g.T.ScalarBitSetStorage.width in
    let at = c.width-width.ensures.value in
    sym (in_no_word (λ s. g.T.ScalarBitSetStorage.number s.0) w c.args.i c.self.inside.words.items
    g.T.ScalarBitSetStorage.width_within.positive
    (subst (λ n. slice_get c.self.inside.words.items (c.args.i / n) ≡ None) at (sym c.in-None.ensures.item)))
    ∙ ap (λ v. contains v.members c.args.i) c.self.view_is
