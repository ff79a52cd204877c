use Rattle.std.proofs.Common.{ap, arith, sym}
use Rattle.std.specs.Prelude.{None}
use Rattle.std.specs.List.{last_or}
use Rattle.wic_scalar.proofs.MemberFacts.{greatest_member, last-members_of, no_members_of_empty}
use Rattle.wic_scalar.proofs.CallFacts.{high_below}
use Rattle.wic_scalar.proofs.set.ScalarBitSet.max.Goals as goal

pub overflow_sub-result-else-is_empty : goal.overflow_sub-result-else-is_empty
overflow_sub-result-else-is_empty g c =
    omega (arith, c.capacity.ensures.width, high_below _ _ _ _ c.leading_zeros.ensures c.is_empty.ensures c.if-is_empty.false)

pub returns-else-is_empty-clause-within : goal.returns-else-is_empty-clause-within
returns-else-is_empty-clause-within g c =
    omega (arith, c.capacity.ensures.width, high_below _ _ _ _ c.leading_zeros.ensures c.is_empty.ensures c.if-is_empty.false)

pub returns-else-is_empty-clause-greatest : goal.returns-else-is_empty-clause-greatest
returns-else-is_empty-clause-greatest g c =
    greatest_member _ _ _ _ c.leading_zeros.ensures
    (omega (arith, c.capacity.ensures.width, high_below _ _ _ _ c.leading_zeros.ensures c.is_empty.ensures c.if-is_empty.false))

pub returns-else-is_empty-clause-last : goal.returns-else-is_empty-clause-last
returns-else-is_empty-clause-last g c = sym (last-members_of _ _ _ (returns-else-is_empty-clause-greatest g c))

pub returns-then-is_empty-clause-last : goal.returns-then-is_empty-clause-last
returns-then-is_empty-clause-last g c = ap (last_or None) (sym (no_members_of_empty _ _ (c.is_empty.ensures.0 c.if-is_empty.true)))
