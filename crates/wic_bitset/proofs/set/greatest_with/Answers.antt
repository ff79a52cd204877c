use Rattle.std.proofs.Common.{sym, subst}
use Rattle.std.specs.FinSet.{insert}
use Rattle.wic_bitset.specs.Greatest.{IsMax}
use Rattle.wic_base.specs.Sets.{IsGreatest}
use Rattle.wic_bitset.proofs.GreatestFacts.{greatest-insert, greatest-insert_first}
use Rattle.wic_bitset.proofs.set.greatest_with.Goals as goal

pub returns-in-Some : goal.returns-in-Some
returns-in-Some c s old =
    subst (IsGreatest (insert s c.args.i)) (sym c.max.ensures)
    (greatest-insert s c.in-Some.max c.args.i (subst (IsMax s) c.in-Some.is old))

pub returns-in-None : goal.returns-in-None
returns-in-None c s old = greatest-insert_first s c.args.i (subst (IsMax s) c.in-None.is old)
