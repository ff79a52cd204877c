use Rattle.wic_slab.proofs.SoundFacts.{IsSlab-sound}
use Rattle.wic_slab.proofs.slab.Slab.next_id.Goals as goal

pub returns-clause-sound : goal.returns-clause-sound
returns-clause-sound g c = rw (← c.self.view_is) (IsSlab-sound _ _ _ _ c.self.inside.entries.capacity c.self.invariant.0 c.self.invariant.1)
