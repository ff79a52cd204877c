use Rattle.std.proofs.Common.{◌*◌, ◌<◌, ◌≤◌, length, sym, ap, ◌∙◌, subst, arith}
use Rattle.std.specs.Prelude.{All}
use Rattle.std.proofs.Math.Nat.{div-lt_iff_lt-mul}
use Rattle.std.specs.Ordering.{nat_cmp}
use Rattle.std.specs.List.{flat_map}
use Rattle.std.specs.List.Sorted.{IsStrictlyIncreasing}
use Rattle.std.specs.FinSet.{from_list}
use Rattle.wic_bitset.specs.Compound.{max_capacity, max_number}
use Rattle.wic_bitset.specs.Rising.{rising, word_members}
use Rattle.wic_bitset.specs.Summary.{filled_words}
use Rattle.wic_bitset.proofs.ByWordFacts.{by_words}
use Rattle.wic_bitset.proofs.RisingFacts.{All-rising, from_list-rising, length-rising-le, IsStrictlyIncreasing-rising}
use Rattle.wic_bitset.proofs.SummaryFacts.{All-filled}
use Rattle.wic_bitset.proofs.set.CompoundBitSet.iter.Goals as goal

pub new-requires : goal.new-requires
new-requires g c =
    let w = g.T.ScalarBitSetStorage.width in
    subst (All (λ k. k < c.self.inside.words.count))
    (sym (c.filled.ensures ∙ ap (λ v. rising (filled_words w v.members)) (sym c.self.view_is)))
    (All-filled w _ _ _ c.self.invariant.0)

pub returns-clause-members : goal.returns-clause-members
returns-clause-members g c =
    let w = g.T.ScalarBitSetStorage.width in
    let s = c.args.self.now.members in
    c.new.ensures
    ∙ ap (λ v. flat_map (word_members w v.members) c.filled.result) c.self.view_is
    ∙ ap (flat_map (word_members w s)) c.filled.ensures
    ∙ by_words w s g.T.ScalarBitSetStorage.width_within.positive

pub returns-clause-each : goal.returns-clause-each
returns-clause-each g c = ap (from_list {R = nat_cmp}) (returns-clause-members g c) ∙ from_list-rising c.args.self.now.members

pub returns-clause-once : goal.returns-clause-once
returns-clause-once g c =
    subst IsStrictlyIncreasing (sym (returns-clause-members g c)) (IsStrictlyIncreasing-rising c.args.self.now.members)

pub returns-clause-few : goal.returns-clause-few
returns-clause-few g c =
    subst (λ list. length list ≤ max_capacity) (sym (returns-clause-members g c))
    (subst (λ v. length (rising v.members) ≤ max_capacity) c.self.view_is
    (length-rising-le c.self.inside.words.members max_capacity (λ i has. let h = c.self.invariant.0.numbers i has in omega arith)))

pub returns-clause-below : goal.returns-clause-below
returns-clause-below g c =
    let w = g.T.ScalarBitSetStorage.width in
    subst (All (λ i. i < c.args.self.now.words * w)) (sym (returns-clause-members g c))
    (subst (λ v. All (λ i. i < v.words * w) (rising v.members)) c.self.view_is
    (All-rising (λ i. i < c.self.inside.words.count * w) c.self.inside.words.members
    (λ i has. (div-lt_iff_lt-mul g.T.ScalarBitSetStorage.width_within.positive).0 (c.self.invariant.0.ends i has))))

pub returns-clause-numbers : goal.returns-clause-numbers
returns-clause-numbers g c =
    subst (All (λ i. i ≤ max_number)) (sym (returns-clause-members g c))
    (subst (λ v. All (λ i. i ≤ max_number) (rising v.members)) c.self.view_is
    (All-rising (λ i. i ≤ max_number) c.self.inside.words.members c.self.invariant.0.numbers))
