use Rattle.std.proofs.Common.{◌≡◌, ◌*◌, ◌≤◌, ap, length, arith}
use Rattle.std.proofs.Math.Nat.{mul-le-mul}
use Rattle.wic_bitset.proofs.store.Store.start.Goals as goal

pub returns-clause-small : goal.returns-clause-small
returns-clause-small g c =
    let count : length c.self.inside.words.items ≡ c.args.self.now.count = ap (λ v. v.count) c.self.view_is in
    let k : c.args.k ≤ 8589934596 = omega arith in
    let w : c.width.result ≤ 128 = omega (arith, g.T.ScalarBitSetStorage.width_within.within) in
    let most : c.args.k * c.width.result ≤ 8589934596 * 128 = mul-le-mul k w in
    omega arith

pub overflow_mul-result : goal.overflow_mul-result
overflow_mul-result g c =
    let count : length c.self.inside.words.items ≡ c.args.self.now.count = ap (λ v. v.count) c.self.view_is in
    let k : c.args.k ≤ 8589934596 = omega arith in
    let w : c.width.result ≤ 255 = omega arith in
    let most : c.args.k * c.width.result ≤ 8589934596 * 255 = mul-le-mul k w in
    omega arith
