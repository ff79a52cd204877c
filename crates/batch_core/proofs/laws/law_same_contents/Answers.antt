use Rattle.batch_core.proofs.SameFacts.{same_contents_from_equal}
use Rattle.batch_core.proofs.laws.law_same_contents.Goals as goal

pub returns : goal.returns
returns g c = λ equal contents other tells. same_contents_from_equal equal tells contents other
