use Rattle.std.proofs.Common.{◌∙◌}
use Rattle.wic_error.proofs.LinkFacts.{first_found}
use Rattle.wic_error.proofs.error.Error.downcast.Goals as goal

pub returns-clause-found : goal.returns-clause-found
returns-clause-found g c =
    let first = first_found g.K.Kind.number c.args.number c.self.inside.repr c.in-Some.place
    (rw c.links.ensures.kept at c.in-Some.ensures.newest) in
    rw (← c.self.view_is) (first ∙ rw c.in-Links.is c.take_at.ensures.item)
