use Rattle.gen_slab.specs.GenSlab.{GenState}
use Rattle.gen_slab.proofs.StaleFacts.{counted_written}
use Rattle.gen_slab.proofs.slab.GenerationalSlab.value_mut.Goals as goal

pub invariant_of-self-lent : goal.invariant_of-self-lent
invariant_of-self-lent g c = λ value.
    let old : GenState g.row.T.Denot =
    record { live = c.self.inside.slab.live; order = c.self.inside.slab.order; count = c.self.inside.count } in
    counted_written old c.handle.inside.id c.index_mut.result.now value c.index_mut.ensures.value c.self.invariant
