use Rattle.wic_slab.specs.IterMut.{iter_mut_left}
use Rattle.wic_slab.proofs.tests.a_walk_writes_each_value.Given as goal

abbrev pub decreases-loop-id : goal.decreases-loop-id
decreases-loop-id g l = iter_mut_left l.walk
