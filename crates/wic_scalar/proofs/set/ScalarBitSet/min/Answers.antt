use Rattle.std.proofs.Common.{ap, sym}
use Rattle.std.specs.List.{slice_get}
use Rattle.wic_scalar.proofs.MemberFacts.{first-members_of, least_member, no_members_of_empty}
use Rattle.wic_scalar.proofs.CallFacts.{low_below}
use Rattle.wic_scalar.proofs.set.ScalarBitSet.min.Goals as goal

pub returns-else-is_empty-clause-within : goal.returns-else-is_empty-clause-within
returns-else-is_empty-clause-within g c = low_below _ _ _ _ c.trailing_zeros.ensures c.is_empty.ensures c.if-is_empty.false

pub returns-else-is_empty-clause-least : goal.returns-else-is_empty-clause-least
returns-else-is_empty-clause-least g c =
    least_member _ _ _ c.trailing_zeros.ensures (low_below _ _ _ _ c.trailing_zeros.ensures c.is_empty.ensures c.if-is_empty.false)

pub returns-else-is_empty-clause-first : goal.returns-else-is_empty-clause-first
returns-else-is_empty-clause-first g c = sym (first-members_of _ _ _ (returns-else-is_empty-clause-least g c))

pub returns-then-is_empty-clause-first : goal.returns-then-is_empty-clause-first
returns-then-is_empty-clause-first g c =
    ap (λ xs. slice_get xs 0) (sym (no_members_of_empty _ _ (c.is_empty.ensures.0 c.if-is_empty.true)))
