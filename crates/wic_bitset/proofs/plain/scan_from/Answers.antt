use Rattle.std.proofs.Common.{◌≡◌, ◌+◌, ◌/◌, sym, ap, subst, arith}
use Rattle.wic_bitset.specs.From.{IsLeastInWord, NoneInWord, NoneUntil}
use Rattle.wic_bitset.proofs.FromFacts.{none_from-past, none_until-first, none_until-next, least_from-first, least_from-next}
use Rattle.wic_bitset.proofs.plain.scan_from.Goals as goal

pub returns-then-first-count : goal.returns-then-first-count
returns-then-first-count g c =
    let w = g.T.ScalarBitSetStorage.width in
    let e : c.args.i / c.width.result ≡ c.args.i / w = ap (λ v. c.args.i / v) c.width.ensures.value in
    none_from-past w c.args.words.now.members c.args.i c.count-count.result g.T.ScalarBitSetStorage.width_within.positive (omega arith)
    c.count-count.ensures.holds_all

pub returns-in-Some : goal.returns-in-Some
returns-in-Some g c =
    least_from-first g.T.ScalarBitSetStorage.width c.args.words.now.members c.args.i c.in-Some.x
    g.T.ScalarBitSetStorage.width_within.positive c.in-Some.ensures

pub loop-k-init : goal.loop-k-init
loop-k-init g c =
    let w = g.T.ScalarBitSetStorage.width in
    let s = c.args.words.now.members in
    let e : c.args.i / c.width.result ≡ c.args.i / w = ap (λ v. c.args.i / v) c.width.ensures.value in (
      subst (λ n. NoneUntil w s c.args.i (n + 1)) (sym e)
          (none_until-first w s c.args.i g.T.ScalarBitSetStorage.width_within.positive c.in_default.ensures),
      omega arith,
    )

pub returns-in-Some-least_in_word : goal.returns-in-Some-least_in_word
returns-in-Some-least_in_word g c =
    let w = g.T.ScalarBitSetStorage.width in
    let s = c.args.words.now.members in
    least_from-next w s c.args.i c.loop-k.k c.in-Some-least_in_word.x g.T.ScalarBitSetStorage.width_within.positive
    c.loop-k.invariant.1 c.loop-k.invariant.0
    (subst (λ n. IsLeastInWord w s n c.in-Some-least_in_word.x) c.start.ensures.start c.in-Some-least_in_word.ensures)

pub loop-k-preserved : goal.loop-k-preserved
loop-k-preserved g c =
    let w = g.T.ScalarBitSetStorage.width in
    let s = c.args.words.now.members in
    let behind = c.loop-k.invariant.1 in (
      none_until-next w s c.args.i c.loop-k.k g.T.ScalarBitSetStorage.width_within.positive c.loop-k.invariant.0
          (subst (NoneInWord w s) c.start.ensures.start c.in_default-least_in_word.ensures),
      omega arith,
    )
