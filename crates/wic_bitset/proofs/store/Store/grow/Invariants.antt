use Rattle.std.proofs.Common.{◌≡◌, ◌-◌, ◌≤◌, length, map}
use Rattle.wic_bitset.specs.Words.{set_of_words}
use Rattle.wic_bitset.proofs.store.Store.grow.Given as goal

abbrev pub invariant-loop-self : goal.invariant-loop-self
invariant-loop-self g l =
    (set_of_words g.T.ScalarBitSetStorage.width
    (map (λ s. g.T.ScalarBitSetStorage.number s.0) l.self-inside.words.items) ≡ l.fn.self.members)
    × ((l.self-inside.words.capacity ≡ l.fn.self.room) × (length l.self-inside.words.items ≤ l.n))

abbrev pub decreases-loop-self : goal.decreases-loop-self
decreases-loop-self g l = l.n - length l.self-inside.words.items
