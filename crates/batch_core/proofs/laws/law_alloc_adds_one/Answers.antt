use Rattle.batch_core.proofs.BackFacts.{alloc_adds}
use Rattle.batch_core.proofs.laws.law_alloc_adds_one.Goals as goal

pub returns : goal.returns
returns g c = λ contents value sound none. alloc_adds contents value sound.belongs
