use Rattle.std.proofs.Common.{refl}
use Rattle.std.proofs.lemmas.Bool.{iff_false}
use Rattle.wic_bitset.proofs.CombinationFacts.{keeps_none_by_marks, keeps_none_of_word}
use Rattle.wic_bitset.proofs.marked.keeps_none_marked.Goals as goal

pub returns-then-not-combines_to_none : goal.returns-then-not-combines_to_none
returns-then-not-combines_to_none g c = (
  λ no. absurd (cc),
  λ none. absurd (iff_false c.combines_to_none.ensures c.if-not-combines_to_none.true
      (keeps_none_of_word g.T.ScalarBitSetStorage.width _ _ _ c.requires c.args.how _ none c.in-Some.k c.in-Some.ensures.member)),
)

pub returns : goal.returns
returns g c =
    let none = keeps_none_by_marks g.T.ScalarBitSetStorage.width _ _ _ c.requires c.args.how _ c.loop-k.next c.in_default.ensures
    c.loop-k.invariant.none in
    (λ _. none, λ _. refl)
