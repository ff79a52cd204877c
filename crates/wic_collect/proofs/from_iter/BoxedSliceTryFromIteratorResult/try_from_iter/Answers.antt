use Rattle.std.proofs.Common.{Ok, map, ap, sym, ◌∙◌}
use Rattle.wic_collect.proofs.ResultFacts.{are_values}
use Rattle.wic_collect.proofs.from_iter.BoxedSliceTryFromIteratorResult.try_from_iter.Goals as goal

pub returns-in-Ok : goal.returns-in-Ok
returns-in-Ok g c =
    let read = c.in_ok-items.ensures.items in
    let run = c.in_ok-items.ensures.runs in
    let same = ap (map Ok) (sym c.in-Ok.ensures.items) in
    record {
      items = (read.0, read.1, are_values read.0 c.in-Ok.slice (read.2.0 ∙ same));
      runs = (run.0, run.1, run.2, are_values run.0.items c.in-Ok.slice (run.3.0 ∙ same));
    }
