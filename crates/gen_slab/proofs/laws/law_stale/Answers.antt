use Rattle.gen_slab.proofs.StaleFacts.{stale_stays_stale}
use Rattle.gen_slab.proofs.laws.law_stale.Goals as goal

pub returns : goal.returns
returns g c = stale_stays_stale
