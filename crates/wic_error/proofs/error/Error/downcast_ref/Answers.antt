use Rattle.std.proofs.Common.{sym, ◌∙◌}
use Rattle.wic_error.proofs.LinkFacts.{first_found}
use Rattle.wic_error.proofs.error.Error.downcast_ref.Goals as goal

pub returns : goal.returns
returns g c =
    let it = rw c.links.ensures.kept at c.in_ok-place.ensures.newest in
    let first = first_found g.K.Kind.number c.args.number c.self.inside.repr c.in_ok-place.place it in
    record { first = rw (← c.self.view_is) (c.link.ensures.item ∙ sym first) }
