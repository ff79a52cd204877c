use Rattle.wic_error.proofs.LinkFacts.{ends_in_root}
use Rattle.wic_error.proofs.error.Error.root_cause.Goals as goal

pub returns-in-Links : goal.returns-in-Links
returns-in-Links g c =
    record { last = rw (← c.self.view_is, c.in-Links.is) (ends_in_root c.in-Links.links.items c.index.result.now c.index.ensures) }
