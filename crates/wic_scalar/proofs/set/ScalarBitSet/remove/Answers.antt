use Rattle.std.proofs.Common.{sym, ◌∙◌}
use Rattle.wic_base.proofs.SetFacts.{remove_absent}
use Rattle.wic_scalar.proofs.CallFacts.{len-removed}
use Rattle.wic_scalar.proofs.set.ScalarBitSet.remove.Goals as goal

pub returns-then-not-contains-clause-set : goal.returns-then-not-contains-clause-set
returns-then-not-contains-clause-set g c = sym (remove_absent _ c.args.i (sym c.contains.ensures ∙ c.if-not-contains.true))

pub returns-clause-count : goal.returns-clause-count
returns-clause-count g c = len-removed _ _ c.args.i _ (sym c.if-not-contains.false ∙ c.contains.ensures) c.take_out.ensures
