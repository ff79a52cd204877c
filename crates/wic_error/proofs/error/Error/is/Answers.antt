use Rattle.std.proofs.Common.{◌∙◌}
use Rattle.wic_error.proofs.LinkFacts.{is_first}
use Rattle.wic_error.proofs.error.Error.is.Goals as goal

pub returns : goal.returns
returns g c =
    let first = is_first g.K.Kind.number c.args.number c.self.inside.repr c.newest_with.result
    (rw c.links.ensures.kept at c.newest_with.ensures.newest) in
    record { answers = rw (← c.self.view_is) (c.is_some.ensures ∙ first) }
