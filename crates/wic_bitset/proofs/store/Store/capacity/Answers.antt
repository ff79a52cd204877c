use Rattle.std.proofs.Common.{ℕ, ◌≡◌, ◌*◌, ◌<◌, ◌≤◌, true, length, subst, arith}
use Rattle.std.specs.FinSet.{contains}
use Rattle.std.proofs.Math.Nat.{mul-le-mul}
use Rattle.wic_bitset.proofs.WordFacts.{within_words}
use Rattle.wic_bitset.proofs.store.Store.capacity.Goals as goal

pub overflow_mul-result : goal.overflow_mul-result
overflow_mul-result g c =
    let k : c.len.result ≤ 8589934596 = omega arith in
    let w : c.width.result ≤ 255 = omega arith in
    let most : c.len.result * c.width.result ≤ 8589934596 * 255 = mul-le-mul k w in
    omega arith

pub returns-clause-holds_all : goal.returns-clause-holds_all
returns-clause-holds_all g c =
    let w = g.T.ScalarBitSetStorage.width in
    let words = c.self.inside.words.items in
    let same : length words * w ≡ c.len.result * c.width.result = cc in
    subst (λ n. (i : ℕ) → contains c.args.self.now.members i ≡ true → i < n) same
    (subst (λ v. (i : ℕ) → contains v.members i ≡ true → i < length words * w) c.self.view_is
    (λ i there. within_words (λ s. g.T.ScalarBitSetStorage.number s.0) w i words g.T.ScalarBitSetStorage.width_within.positive there))
