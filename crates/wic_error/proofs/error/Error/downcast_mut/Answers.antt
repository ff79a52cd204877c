use Rattle.wic_error.proofs.LinkFacts.{first_found, seen-with_kept}
use Rattle.wic_error.proofs.error.Error.downcast_mut.Goals as goal

pub returns : goal.returns
returns g c =
    let place = c.in_ok-place.place in
    let repr = c.self.inside.repr in
    let it = rw c.links.ensures.kept at c.in_ok-place.ensures.newest in
    let written = λ (w : g.row.K.Denot). seen-with_kept g.K.Kind.number c.args.number repr place w it in
    let first = first_found g.K.Kind.number c.args.number repr place it in
    (simp (written, c.self.view_is), record { writes_back = tt; first = rw (← c.self.view_is, first) c.link_mut.ensures.item })
