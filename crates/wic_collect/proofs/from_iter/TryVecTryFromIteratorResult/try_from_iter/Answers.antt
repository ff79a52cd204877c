use Rattle.std.proofs.Common.{◌∷◌, [], ◌++◌, map, Ok, Err, inl, inr, refl, ap, sym, ◌∙◌}
use Rattle.wic_collect.specs.Collected.{AreValues, EndInError}
use Rattle.wic_collect.proofs.ReadingFacts.{drains_results, results_from_reads, results_one_more}
use Rattle.wic_collect.proofs.ResultFacts.{are_values, end_with_error}
use Rattle.wic_collect.proofs.RunFacts.{whole_from_drains, some_from_yields}
use Rattle.wic_collect.proofs.from_iter.TryVecTryFromIteratorResult.try_from_iter.Goals as goal

pub returns-in-Ended : goal.returns-in-Ended
returns-in-Ended g c =
    let read = c.in-Ended.ensures.items in
    let steps = g.I.Iterator.next_gives in
    let drained = drains_results steps (λ x. x) (λ x. refl) c.args.iter c.pour.new.iter read.0 read.2.0 in
    let made = are_values (map Ok read.0) c.pour.new.to.items
    (ap (map Ok) (sym (read.1 ∙ ap (λ l. l ++ read.0) c.new-items.ensures.empty))) in
    record {
      items = (map Ok read.0, drained, made);
      runs = whole_from_drains steps c.args.iter (map Ok read.0) (λ l n. AreValues l c.pour.new.to.items) drained made;
    }

pub returns-in-Error : goal.returns-in-Error
returns-in-Error g c =
    let read = c.in-Error.ensures.items in
    let last = read.2 in
    let steps = g.I.Iterator.next_gives in
    let items = map Ok read.0 ++ Err c.in-Error.error ∷ [] in
    let gave = results_one_more steps (λ x. x) (λ x. refl) c.args.iter last.0 c.pour.new.iter read.0 last.1
    (Err c.in-Error.error) last.2 last.3 last.4 in
    let ended = inl (end_with_error read.0 c.in-Error.error) in
    record {
      items = (items, c.pour.new.iter, gave, ended);
      runs = some_from_yields steps c.args.iter c.pour.new.iter items (λ l n. EndInError l g.E.From.from_gives c.in-Error.error) gave ended;
    }

pub returns-in-Refused : goal.returns-in-Refused
returns-in-Refused g c =
    let read = c.in-Refused.ensures.items in
    let last = read.2.0 in
    let steps = g.I.Iterator.next_gives in
    let gave = results_from_reads steps (λ x. x) (λ x. refl) c.args.iter last.0 read.0 last.2 in
    let ended = inr (c.in-Refused.oom, c.from.ensures) in
    record {
      items = (map Ok read.0, last.0, gave, ended);
      runs = some_from_yields steps c.args.iter last.0 (map Ok read.0) (λ l n. EndInError l g.E.From.from_gives c.from.result) gave
          ended;
    }
