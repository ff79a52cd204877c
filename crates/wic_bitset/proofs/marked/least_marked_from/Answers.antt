use Rattle.std.proofs.Common.{◌≡◌, ◌+◌, ◌*◌, ◌/◌, sym, ap, subst, ◌∙◌, arith}
use Rattle.std.proofs.lemmas.Nat.{div-mul-add}
use Rattle.wic_bitset.specs.From.{IsLeastFrom, IsMinInWord, NoneFrom}
use Rattle.wic_bitset.proofs.FromFacts.{none_from-past, none_until-first, least_from-first}
use Rattle.wic_bitset.proofs.MarkedFacts.{min_by_marks, none_from-marks}
use Rattle.wic_bitset.proofs.SummaryFacts.{summary_within}
use Rattle.wic_bitset.proofs.marked.least_marked_from.Goals as goal

pub returns-then-first-count : goal.returns-then-first-count
returns-then-first-count g c =
    let w = g.T.ScalarBitSetStorage.width in
    let e : c.args.i / c.width.result ≡ c.args.i / w = ap (λ v. c.args.i / v) c.width.ensures.value in
    none_from-past w c.args.words.now.members c.args.i c.count.result g.T.ScalarBitSetStorage.width_within.positive (omega arith)
    c.count.ensures.holds_all

pub returns-in-Some : goal.returns-in-Some
returns-in-Some g c =
    least_from-first g.T.ScalarBitSetStorage.width c.args.words.now.members c.args.i c.in-Some.x
    g.T.ScalarBitSetStorage.width_within.positive c.in-Some.ensures

pub start-requires : goal.start-requires
start-requires g c =
    summary_within g.T.ScalarBitSetStorage.width _ _ _ c.requires c.in-Some-least_from.k c.in-Some-least_from.ensures.member

pub least_in_word-requires-in-Some-least_from : goal.least_in_word-requires-in-Some-least_from
least_in_word-requires-in-Some-least_from g c =
    let w = g.T.ScalarBitSetStorage.width in
    let k = c.in-Some-least_from.k in
    let within = summary_within w _ _ _ c.requires k c.in-Some-least_from.ensures.member in
    let e : k * w + 0 ≡ c.start.result = omega (arith, c.start.ensures.start) in
    let word = ap (λ x. x / w) (sym e) ∙ div-mul-add k w 0 g.T.ScalarBitSetStorage.width_within.positive in
    omega arith

pub returns-in-Some-least_from : goal.returns-in-Some-least_from
returns-in-Some-least_from g c =
    let w = g.T.ScalarBitSetStorage.width in
    let s = c.args.words.now.members in
    let k = c.in-Some-least_from.k in
    let r = c.least_in_word-in-Some-least_from.result in
    let e : c.args.i / c.width.result ≡ c.args.i / w = ap (λ v. c.args.i / v) c.width.ensures.value in
    min_by_marks w c.args.words.now _ _ c.requires g.T.ScalarBitSetStorage.width_within.positive c.args.i k r
    (none_until-first w s c.args.i g.T.ScalarBitSetStorage.width_within.positive c.in_default.ensures)
    (subst (λ n. IsLeastFrom (g.S.NumberSet.members c.args.marks.now) (n + 1) k) e c.in-Some-least_from.ensures)
    (subst (λ n. IsMinInWord w s n r) c.start.ensures.start c.least_in_word-in-Some-least_from.ensures)

pub returns-in-None : goal.returns-in-None
returns-in-None g c =
    let w = g.T.ScalarBitSetStorage.width in
    let s = c.args.words.now.members in
    let e : c.args.i / c.width.result ≡ c.args.i / w = ap (λ v. c.args.i / v) c.width.ensures.value in
    none_from-marks w c.args.words.now _ _ c.requires c.args.i
    (none_until-first w s c.args.i g.T.ScalarBitSetStorage.width_within.positive c.in_default.ensures)
    (subst (λ n. NoneFrom (g.S.NumberSet.members c.args.marks.now) (n + 1)) e c.in-None.ensures)
