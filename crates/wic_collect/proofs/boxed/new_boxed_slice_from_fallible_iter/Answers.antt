use Rattle.std.proofs.Common.{◌∷◌, [], refl, Err, Ok, map, ap, sym, subst, ◌∙◌, ◌++◌}
use Rattle.std.specs.Iterator.{Drains}
use Rattle.wic_collect.specs.Collected.{AreValues, EndWithError}
use Rattle.wic_collect.proofs.ReadingFacts.{drains_results, results_one_more}
use Rattle.wic_collect.proofs.ResultFacts.{are_values, end_with_error}
use Rattle.wic_collect.proofs.RunFacts.{whole_from_drains, some_from_yields}
use Rattle.wic_collect.proofs.boxed.new_boxed_slice_from_fallible_iter.Goals as goal

pub returns-in-Ok : goal.returns-in-Ok
returns-in-Ok g c =
    let read = c.in-Ended.ensures.items in
    let steps = g.I.IntoIter.Iterator.next_gives in
    let made = c.in-Ok.ensures.items ∙ read.1 ∙ ap (λ l. l ++ read.0) c.new-items.ensures.empty in
    let drained = subst (λ l. Drains steps c.into_iter.result (map Ok l)) (sym made)
    (drains_results steps (λ x. x) (λ x. refl) c.into_iter.result c.pour.new.iter read.0 read.2.0) in
    record {
      items = (c.into_iter.result, c.into_iter.ensures.into_iter_gives, drained);
      first_error = tt;
      runs = (
        c.into_iter.result,
        c.into_iter.ensures.into_iter_gives,
        whole_from_drains steps c.into_iter.result (map Ok c.in-Ok.slice) (λ l n. AreValues l c.in-Ok.slice) drained
            (are_values (map Ok c.in-Ok.slice) c.in-Ok.slice refl),
      );
      first_error_run = tt;
    }

pub returns-in-Error : goal.returns-in-Error
returns-in-Error g c =
    let read = c.in-Error.ensures.items in
    let last = read.2 in
    let steps = g.I.IntoIter.Iterator.next_gives in
    let items = map Ok read.0 ++ Err c.in-Error.error ∷ [] in
    let gave = results_one_more steps (λ x. x) (λ x. refl) c.into_iter.result last.0 c.pour.new.iter read.0 last.1
    (Err c.in-Error.error) last.2 last.3 last.4 in
    record {
      items = tt;
      first_error = (c.into_iter.result, c.into_iter.ensures.into_iter_gives, (read.0, c.pour.new.iter, gave));
      runs = tt;
      first_error_run = (
        c.into_iter.result,
        c.into_iter.ensures.into_iter_gives,
        some_from_yields steps c.into_iter.result c.pour.new.iter items (λ l n. EndWithError l c.in-Error.error) gave
            (end_with_error read.0 c.in-Error.error),
      );
    }
