use Rattle.std.proofs.Common.{◌≡◌, ◌/◌, ◌||◌, ap, sym, subst, ◌∙◌, arith}
use Rattle.std.specs.FinSet.{contains}
use Rattle.wic_bitset.specs.Greatest.{IsMax}
use Rattle.wic_bitset.specs.Growth.{count_after}
use Rattle.wic_bitset.proofs.CombinationFacts.{greatest_is_one, union_is}
use Rattle.wic_bitset.specs.Words.{EndsBefore}
use Rattle.wic_base.proofs.SetFacts.{none_in_empty}
use Rattle.wic_bitset.proofs.GreatestFacts.{ends-empty, ends-within}
use Rattle.wic_bitset.proofs.set.CompoundBitSet.union_with.Goals as goal
use Rattle.wic_bitset.proofs.set.CompoundBitSet.union_with.Goals.{in-Some+in_ok-make_room_for, in_default}

pub combine-requires : goal.combine-requires
combine-requires g c =
    let w = g.T.ScalarBitSetStorage.width in
    let other = c.args.other.now.members in
    let max = subst (λ v. IsMax v.members c.other.inside.max) c.other.view_is c.other.invariant.1 in
    elim c.match-other.branch [
      | in-Some+in_ok-make_room_for b ↦ let room = b.in_ok-make_room_for.ensures.room in
          subst (λ v. EndsBefore w other v.words) (sym b.self-is)
          (ends-within w b.make_room_for.new.self.words other b.in-Some.max g.T.ScalarBitSetStorage.width_within.positive
          (subst (IsMax other) b.in-Some.is max) (omega (arith, room)))
      | in_default b ↦ λ i has. absurd (let h = ends-empty w other (subst (IsMax other) b.in_default.is max) i has in omega arith)
    ]

pub returns-clause-members : goal.returns-clause-members
returns-clause-members g c =
    let other = c.args.other.now.members in
    let kept : c.match-other.self.members ≡ c.args.self.now.members = elim c.match-other.branch [
      | in-Some+in_ok-make_room_for b ↦ ap (λ v. v.members) b.self-is ∙ b.in_ok-make_room_for.ensures.members
      | in_default b ↦ ap (λ v. v.members) b.self-is
    ] in
    union_is c.args.self.now.members other c.combine.new.self.members
    (λ i. c.combine.ensures.members i ∙ ap (λ s. contains s i || contains other i) kept)

pub returns-clause-words : goal.returns-clause-words
returns-clause-words g c x last =
    let other = c.args.other.now.members in
    let max = subst (λ v. IsMax v.members c.other.inside.max) c.other.view_is c.other.invariant.1 in
    c.combine.ensures.words ∙ elim c.match-other.branch [
      | in-Some+in_ok-make_room_for b ↦ ap (λ v. v.words) b.self-is ∙ b.in_ok-make_room_for.ensures.words
          ∙ ap (λ m. count_after c.args.self.now.words (m / g.T.ScalarBitSetStorage.width))
          (greatest_is_one other b.in-Some.max x (subst (IsMax other) b.in-Some.is max) last)
      | in_default b ↦ absurd (let none = none_in_empty other (subst (IsMax other) b.in_default.is max) x in let has = last.member in cc)
    ]
