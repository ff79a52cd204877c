use Rattle.std.proofs.Common.{sym, ◌∙◌}
use Rattle.wic_error.proofs.TextFacts.{texts_of-parts, texts_of-no_link}
use Rattle.wic_error.proofs.error.Error.causes.Goals as goal

pub returns-in-Some : goal.returns-in-Some
returns-in-Some g c =
    let newest = c.in-Some.field-0-0.now in
    let parts = sym c.links.ensures.kept ∙ c.in-Some.ensures.cases.0 in
    record {
      texts = (
        g.K.Kind.text newest,
        rw (← c.self.view_is) (texts_of-parts g.K.Kind.text c.self.inside.repr c.in-Some.causes.now newest parts),
      );
    }

pub returns-in-None : goal.returns-in-None
returns-in-None g c =
    record {
      texts = rw (← c.self.view_is)
          (texts_of-no_link g.K.Kind.text c.self.inside.repr c.self.invariant (rw c.links.ensures.kept at c.in-None.ensures.cases));
    }
