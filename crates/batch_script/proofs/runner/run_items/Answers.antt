use Rattle.std.proofs.Common.{ap, map, sym, ◌∙◌}
use Rattle.std.proofs.lemmas.List.{length-map}
use Rattle.std.specs.Vec.Iter.{into_iter_items, into_iter_len}
use Rattle.batch_script.proofs.RunFacts.{under_way-begin, under_way-more, text_of_run}
use Rattle.batch_script.proofs.runner.run_items.Goals as goal

pub loop-item-init : goal.loop-item-init
loop-item-init g c =
    let plain = g.S.Space.meaning.plain_item in
    let items = c.args.items.items in
    let gives = c.into_iter-item-iterator.ensures.into_iter_gives in
    record {
      under_way = rw gives.0 (under_way-begin g.S.Space.meaning.bodies (map plain items) (g.S.Space.held c.new-space.result)
          c.new-text.result.bytes (into_iter_len c.into_iter-item-iterator.result) c.new-space.ensures.empty c.new-text.ensures.empty
          (gives.1 ∙ sym (length-map items plain)));
      may_run = rw gives.0 c.requires.may_run;
    }

pub loop-item-preserved : goal.loop-item-preserved
loop-item-preserved g c =
    let l = c.loop-item in
    let plain = g.S.Space.meaning.plain_item in
    let held = g.S.Space.held in
    let new = c.run_item.new in
    let rest = c.next.new.self in
    let steps = c.in-Some.ensures.steps in
    let may = rw steps.0 at l.invariant.may_run in
    record {
      under_way = under_way-more g.S.Space.meaning.bodies (map plain c.args.items.items) (held l.space) (held new.self) l.text.bytes
          new.text.bytes (map plain (into_iter_items l.item-iterator)) (map plain (into_iter_items rest)) (plain c.in-Some.item)
          (into_iter_len l.item-iterator) (into_iter_len rest) l.invariant.under_way (ap (map plain) steps.0) steps.1
          c.in_ok-run_item.ensures.answered;
      may_run = may.1;
    }

pub returns : goal.returns
returns g c =
    let l = c.loop-item in
    let plain = g.S.Space.meaning.plain_item in
    record {
      text = text_of_run g.S.Space.meaning.bodies (map plain c.args.items.items) (g.S.Space.held l.space) l.text.bytes
          (map plain (into_iter_items l.item-iterator)) (into_iter_len l.item-iterator) l.invariant.under_way
          c.in-None.ensures.steps.0;
    }
