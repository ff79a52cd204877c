use Rattle.std.proofs.Common.{◌+◌, ◌<◌, length, take, rules, ap, arith, subst, sym}
use Rattle.std.specs.List.{AllZip}
use Rattle.std.proofs.lemmas.List.{length_push}
use Rattle.wic_vec.proofs.ListFacts.{one_more_copy}
use Rattle.wic_vec.proofs.vec.TryVec.from_clones.Goals as goal

pub loop-item-preserved : goal.loop-item-preserved
loop-item-preserved g c =
    let at = c.loop-item in
    let put = c.push_reserved.ensures in
    let more : at.item-index < length c.args.items.now = search rules in
    record {
      same = subst (λ l. AllZip g.T.TryClone.same (take (at.item-index + 1) c.args.items.now) l) (sym put.last)
          (one_more_copy _ _ _ at.item-index _ _ more c.item-item.is at.invariant.same c.in_ok-copy.ensures.same);
      as_many = omega (arith, ap length put.last, length_push at.copies.items c.in_ok-copy.copy);
      room = search rules;
    }
