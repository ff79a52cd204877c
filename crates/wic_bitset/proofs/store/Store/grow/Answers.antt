use Rattle.std.proofs.Common.{◌≡◌, ◌+◌, ◌<◌, [], ◌∷◌, length, length-append, map, ap, ◌∙◌, arith}
use Rattle.wic_bitset.specs.Words.{set_of_words}
use Rattle.wic_bitset.proofs.WordFacts.{set_of_words-push}
use Rattle.wic_bitset.proofs.store.Store.grow.Goals as goal

pub loop-self-preserved : goal.loop-self-preserved
loop-self-preserved g c =
    let w = g.T.ScalarBitSetStorage.width in
    let before = c.loop-self.self-inside.words.items in
    let was = c.loop-self.invariant in
    let test : length before < c.args.n = omega arith in
    let long : length c.push_reserved.new.self.items ≡ length before + 1 =
    ap length c.push_reserved.ensures.last ∙ length-append before (c.new.result ∷ []) in (
      ap (λ items. set_of_words w (map (λ s. g.T.ScalarBitSetStorage.number s.0) items)) c.push_reserved.ensures.last
          ∙ set_of_words-push (λ s. g.T.ScalarBitSetStorage.number s.0) w before c.new.result
          g.T.ScalarBitSetStorage.width_within.positive c.new.ensures
          ∙ was.0,
      (c.push_reserved.ensures.capacity_stays ∙ was.1.0, omega arith),
    )
