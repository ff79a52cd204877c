use Rattle.wic_bitset.specs.Words.{SameWordsBelow}
use Rattle.wic_bitset.proofs.store.Store.has_same_words.Given as goal

abbrev pub invariant-loop-k : goal.invariant-loop-k
invariant-loop-k g l = SameWordsBelow g.T.ScalarBitSetStorage.width l.k l.self.members l.other.members
