use Rattle.std.proofs.Common.{map}
use Rattle.std.specs.List.{AllByRecursion}
use Rattle.std.specs.Vec.Iter.{into_iter_items, into_iter_len}
use Rattle.batch_script.proofs.RunFacts.{IsUnderWay}
use Rattle.batch_script.proofs.runner.run_items.Given as goal

-- the run is under way, and the items that are left may be run
abbrev pub invariant-loop-item : goal.invariant-loop-item
invariant-loop-item g l = record {
  under_way : IsUnderWay g.S.Space.meaning.bodies (map g.S.Space.meaning.plain_item l.fn.items.items) (g.S.Space.held l.space) l.text.bytes
      (map g.S.Space.meaning.plain_item (into_iter_items l.item-iterator)) (into_iter_len l.item-iterator);
  may_run : AllByRecursion g.S.Space.meaning.may_run (into_iter_items l.item-iterator);
}
