use Rattle.std.proofs.Common.{refl}
use Rattle.batch_script.proofs.callers.serve_generated.Goals as goal

pub returns-clause-ends : goal.returns-clause-ends
returns-clause-ends g c seed count asks =
    c.top.ensures.ends.text _ (record { seed = seed; count = count; asks = asks; tells = refl })
