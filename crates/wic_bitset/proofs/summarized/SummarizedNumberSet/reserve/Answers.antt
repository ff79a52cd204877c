use Rattle.std.proofs.Common.{ap, ◌∙◌, arith}
use Rattle.std.specs.Int.{div_ceil}
use Rattle.wic_bitset.proofs.DivisionFacts.{div_ceil-least}
use Rattle.wic_bitset.proofs.RoomFacts.{room_for}
use Rattle.std.proofs.lemmas.Result.{on_ok_weaker}
use Rattle.wic_bitset.proofs.summarized.SummarizedNumberSet.reserve.Goals as goal

pub returns-in_err-reserve-clause-never_refused_within : goal.returns-in_err-reserve-clause-never_refused_within
returns-in_err-reserve-clause-never_refused_within g c within =
    let w = g.T.ScalarBitSetStorage.width in
    let need = c.div_ceil-count.ensures ∙ ap (div_ceil c.args.n) c.width.ensures.value in
    let le = div_ceil-least w c.args.n c.args.self.now.room g.T.ScalarBitSetStorage.width_within.positive within in
    let room = ap (λ v. v.room) c.self.view_is in
    absurd (let no = c.in_err-reserve.ensures.never_refused_within (omega arith) in cc)

pub returns-clause-enough : goal.returns-clause-enough
returns-clause-enough g c =
    let w = g.T.ScalarBitSetStorage.width in
    let need = c.div_ceil-count.ensures ∙ ap (div_ceil c.args.n) c.width.ensures.value in
    let marks = c.in_ok-reserve.ensures.enough in
    on_ok_weaker c.reserve_words.result (λ le. room_for w c.args.n _ g.T.ScalarBitSetStorage.width_within.positive (omega arith))
    c.reserve_words.ensures.enough

pub returns-clause-never_refused_within : goal.returns-clause-never_refused_within
returns-clause-never_refused_within g c within =
    let w = g.T.ScalarBitSetStorage.width in
    let need = c.div_ceil-count.ensures ∙ ap (div_ceil c.args.n) c.width.ensures.value in
    let le = div_ceil-least w c.args.n c.args.self.now.room g.T.ScalarBitSetStorage.width_within.positive within in
    let room = ap (λ v. v.room) c.self.view_is in
    c.reserve_words.ensures.never_refused_within (omega arith)
