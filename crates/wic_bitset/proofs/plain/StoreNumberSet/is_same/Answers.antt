use Rattle.std.proofs.Common.{ap, subst}
use Rattle.std.specs.FinSet.{contains}
use Rattle.wic_bitset.specs.Words.{SameWordsBelow}
use Rattle.wic_bitset.proofs.SameFacts.{same_words_all}
use Rattle.wic_bitset.proofs.plain.StoreNumberSet.is_same.Goals as goal

pub returns : goal.returns
returns g c =
    let w = g.T.ScalarBitSetStorage.width in (
      λ yes. same_words_all w c.count.result c.count-2.result _ _ c.count.ensures.holds_all c.count-2.ensures.holds_all
          (subst (λ n. SameWordsBelow w n c.args.self.now.members c.args.other.now.members) c.max.ensures
          (c.has_same_words.ensures.0 yes)),
      λ same. c.has_same_words.ensures.1 (λ i _. ap (λ s. contains s i) same),
    )
