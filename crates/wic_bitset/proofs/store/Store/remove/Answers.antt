use Rattle.std.proofs.Common.{◌≡◌, ◌/◌, ◌%◌, sym, ap, subst, ◌∙◌, Some, slice_get, set, map, length, ◌≤◌, arith}
use Rattle.std.specs.FinSet.{contains, remove}
use Rattle.wic_scalar.specs.Scalar.{set_of}
use Rattle.wic_bitset.specs.Words.{set_of_words}
use Rattle.wic_base.proofs.SetFacts.{remove_absent}
use Rattle.wic_bitset.proofs.WordFacts.{in_word, in_no_word, take_from_word, none_past}
use Rattle.wic_bitset.proofs.store.Store.remove.Goals as goal

pub returns-then-word-len-clause-present : goal.returns-then-word-len-clause-present
returns-then-word-len-clause-present g c =
    let w = g.T.ScalarBitSetStorage.width in
    let at = c.width-width.ensures.value in
    c.remove.ensures.present
    ∙ (λ j. contains (set_of w (g.T.ScalarBitSetStorage.number c.index_mut.result.now.0)) (c.args.i % at j))
    ∙ sym (in_word (λ s. g.T.ScalarBitSetStorage.number s.0) w c.args.i c.self.inside.words.items c.index_mut.result.now
    g.T.ScalarBitSetStorage.width_within.positive
    (subst (λ n. slice_get c.self.inside.words.items (c.args.i / n) ≡ Some c.index_mut.result.now) at c.index_mut.ensures.item))
    ∙ ap (λ v. contains v.members c.args.i) c.self.view_is

pub returns-then-word-len-clause-members : goal.returns-then-word-len-clause-members
returns-then-word-len-clause-members g c =
    let w = g.T.ScalarBitSetStorage.width in
    let at = c.width-width.ensures.value in
    let old = c.index_mut.result.now in
    ap (λ n. set_of_words w (map (λ s. g.T.ScalarBitSetStorage.number s.0)
    (set c.self.inside.words.items (c.args.i / n) c.remove.new.self))) at
    ∙ take_from_word (λ s. g.T.ScalarBitSetStorage.number s.0) w c.args.i c.self.inside.words.items old c.remove.new.self
    g.T.ScalarBitSetStorage.width_within.positive
    (subst (λ n. slice_get c.self.inside.words.items (c.args.i / n) ≡ Some old) at c.index_mut.ensures.item)
    (c.remove.ensures.set ∙ ap (λ n. remove (set_of w (g.T.ScalarBitSetStorage.number old.0)) (c.args.i % n)) at)
    ∙ ap (λ v. remove v.members c.args.i) c.self.view_is

pub returns-else-word-len-clause-present : goal.returns-else-word-len-clause-present
returns-else-word-len-clause-present g c =
    let w = g.T.ScalarBitSetStorage.width in
    let at = c.width-width.ensures.value in
    let past : length c.self.inside.words.items ≤ c.args.i / w =
    subst (λ n. length c.self.inside.words.items ≤ c.args.i / n) at (omega arith) in
    sym (in_no_word (λ s. g.T.ScalarBitSetStorage.number s.0) w c.args.i c.self.inside.words.items
    g.T.ScalarBitSetStorage.width_within.positive
    (none_past _ _ past))
    ∙ ap (λ v. contains v.members c.args.i) c.self.view_is

pub returns-else-word-len-clause-members : goal.returns-else-word-len-clause-members
returns-else-word-len-clause-members g c = sym (remove_absent _ _ (sym (returns-else-word-len-clause-present g c)))
