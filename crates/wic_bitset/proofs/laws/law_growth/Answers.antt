use Rattle.std.proofs.Common.{arith}
use Rattle.wic_bitset.proofs.GrowthFacts.{count_after_all-le, doubled_from_none, sum_before-le}
use Rattle.wic_bitset.proofs.laws.law_growth.Goals as goal

pub returns-clause-bounded : goal.returns-clause-bounded
returns-clause-bounded c = count_after_all-le 0

pub returns-clause-doubled : goal.returns-clause-doubled
returns-clause-doubled c = doubled_from_none

pub returns-clause-copied : goal.returns-clause-copied
returns-clause-copied c = λ asks _. omega (arith, sum_before-le 0 asks)
