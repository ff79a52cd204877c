use Rattle.std.proofs.Common.{ap, sym, not, ◌∙◌}
use Rattle.wic_base.proofs.SetFacts.{insert_present}
use Rattle.wic_scalar.proofs.CallFacts.{len-inserted, insert_from_or}
use Rattle.wic_scalar.proofs.set.ScalarBitSet.insert.Goals as goal

pub returns-then-contains-clause-set : goal.returns-then-contains-clause-set
returns-then-contains-clause-set g c = sym (insert_present _ c.args.i (sym c.contains.ensures ∙ c.if-contains.true))

pub returns-clause-set : goal.returns-clause-set
returns-clause-set g c = insert_from_or _ _ _ _ _ c.requires c.bit.ensures c.bit_or-self.ensures

pub returns-clause-count : goal.returns-clause-count
returns-clause-count g c = len-inserted _ _ c.args.i _ (ap not (sym c.if-contains.false ∙ c.contains.ensures)) (returns-clause-set g c)
