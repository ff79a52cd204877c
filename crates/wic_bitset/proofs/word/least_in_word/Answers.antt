use Rattle.std.proofs.Common.{◌≡◌, ◌+◌, ◌/◌, ◌%◌, ◌*◌, ◌<◌, ◌&&◌, ℕ, not, refl, sym, ap, subst, ◌∙◌}
use Rattle.std.specs.Prelude.{nat_lt}
use Rattle.wic_scalar.specs.Digits.{is_one}
use Rattle.wic_bitset.specs.Words.{IsWordOf}
use Rattle.wic_bitset.specs.From.{IsLeastInWord}
use Rattle.wic_bitset.proofs.FromFacts.{least_in_word-some, least_in_word-none}
use Rattle.wic_bitset.proofs.word.least_in_word.Goals as goal

pub returns-in-Some : goal.returns-in-Some
returns-in-Some g c =
    let w = g.T.ScalarBitSetStorage.width in
    let s = c.args.words.now.members in
    let i = c.args.i in
    let at = c.width-width.ensures.value in
    let n = g.T.ScalarBitSetStorage.number c.word.result.0 in
    let m = g.T.ScalarBitSetStorage.number c.places_from.result.0 in
    subst (λ n. IsLeastInWord w s i (n + c.in-Some.place)) (sym (c.start-start.ensures.start ∙ ap (λ v. i / v * w) at))
    (least_in_word-some w s i n m g.T.ScalarBitSetStorage.width_within.positive
    (subst (λ v. IsWordOf w s (i / v) n) at c.word.ensures)
    (subst (λ v. (j : ℕ) → j < w → is_one m j ≡ (is_one n j && not (nat_lt j (i % v)))) at c.places_from.ensures)
    c.in-Some.place c.in-Some.ensures.within c.in-Some.ensures.least)

pub returns-in-None : goal.returns-in-None
returns-in-None g c =
    let w = g.T.ScalarBitSetStorage.width in
    let s = c.args.words.now.members in
    let i = c.args.i in
    let at = c.width-width.ensures.value in
    let n = g.T.ScalarBitSetStorage.number c.word.result.0 in
    let m = g.T.ScalarBitSetStorage.number c.places_from.result.0 in
    least_in_word-none w s i n m g.T.ScalarBitSetStorage.width_within.positive
    (subst (λ v. IsWordOf w s (i / v) n) at c.word.ensures)
    (subst (λ v. (j : ℕ) → j < w → is_one m j ≡ (is_one n j && not (nat_lt j (i % v)))) at c.places_from.ensures)
    (c.in-None.ensures.none.0 refl)
