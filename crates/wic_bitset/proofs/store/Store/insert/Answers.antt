use Rattle.std.proofs.Common.{◌≡◌, ◌/◌, ◌%◌, not, sym, ap, subst, ◌∙◌, Some, slice_get, set, map}
use Rattle.std.specs.FinSet.{contains, insert}
use Rattle.wic_scalar.specs.Scalar.{set_of}
use Rattle.wic_bitset.specs.Words.{set_of_words}
use Rattle.wic_bitset.proofs.WordFacts.{in_word, put_in_word}
use Rattle.wic_bitset.proofs.store.Store.insert.Goals as goal

pub returns-clause-new : goal.returns-clause-new
returns-clause-new g c =
    let w = g.T.ScalarBitSetStorage.width in
    let at = c.width-width.ensures.value in
    c.insert.ensures.new
    ∙ (λ j. not (contains (set_of w (g.T.ScalarBitSetStorage.number c.index_mut.result.now.0)) (c.args.i % at j)))
    ∙ ap not (sym (in_word (λ s. g.T.ScalarBitSetStorage.number s.0) w c.args.i c.self.inside.words.items c.index_mut.result.now
    g.T.ScalarBitSetStorage.width_within.positive
    (subst (λ n. slice_get c.self.inside.words.items (c.args.i / n) ≡ Some c.index_mut.result.now) at c.index_mut.ensures.item))
    ∙ ap (λ v. contains v.members c.args.i) c.self.view_is)

pub returns-clause-members : goal.returns-clause-members
returns-clause-members g c =
    let w = g.T.ScalarBitSetStorage.width in
    let at = c.width-width.ensures.value in
    let old = c.index_mut.result.now in
    ap (λ n. set_of_words w (map (λ s. g.T.ScalarBitSetStorage.number s.0)
    (set c.self.inside.words.items (c.args.i / n) c.insert.new.self))) at
    ∙ put_in_word (λ s. g.T.ScalarBitSetStorage.number s.0) w c.args.i c.self.inside.words.items old c.insert.new.self
    g.T.ScalarBitSetStorage.width_within.positive
    (subst (λ n. slice_get c.self.inside.words.items (c.args.i / n) ≡ Some old) at c.index_mut.ensures.item)
    (c.insert.ensures.set ∙ ap (λ n. insert (set_of w (g.T.ScalarBitSetStorage.number old.0)) (c.args.i % n)) at)
    ∙ ap (λ v. insert v.members c.args.i) c.self.view_is
