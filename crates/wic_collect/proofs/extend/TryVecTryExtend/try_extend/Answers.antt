use Rattle.std.proofs.Common.{◌≡◌, ◌∷◌, [], ◌++◌, length, length-append, Ok, refl, sym, ap, ◌∙◌, ◌+◌, ℕ, take, arith}
use Rattle.std.proofs.Math.Seq.{take-append_seam}
use Rattle.wic_vec.specs.TryVec.{HasRoomFor}
use Rattle.wic_collect.proofs.ReadingFacts.{drains_from_reads, yields_one_more}
use Rattle.wic_collect.proofs.RunFacts.{whole_from_drains, some_from_yields}
use Rattle.wic_collect.proofs.extend.TryVecTryExtend.try_extend.Goals as goal

pub returns-in-Ended : goal.returns-in-Ended
returns-in-Ended g c =
    let read = c.in-Ended.ensures.items in
    let steps = g.I.IntoIter.Iterator.next_gives in
    let drained = drains_from_reads steps (λ x. Ok x) (λ x. refl) c.into_iter.result c.pour.new.iter read.0 read.2.0 in
    record {
      items = (c.into_iter.result, c.into_iter.ensures.into_iter_gives, (read.0, read.1, drained));
      runs = (
        c.into_iter.result,
        c.into_iter.ensures.into_iter_gives,
        whole_from_drains steps c.into_iter.result read.0 (λ l n. c.pour.new.to.items ≡ c.args.self.now.items ++ l) drained read.1,
      );
      refused_beyond_room = tt;
      room_never_falls = c.in-Ended.ensures.capacity_never_falls;
    }

pub returns-in-Refused : goal.returns-in-Refused
returns-in-Refused g c =
    let read = c.in-Refused.ensures.items in
    let last = read.2.0 in
    let items = read.0 ++ last.1 ∷ [] in
    let steps = g.I.IntoIter.Iterator.next_gives in
    let gave = yields_one_more steps (λ x. Ok x) (λ x. refl) c.into_iter.result last.0 c.pour.new.iter read.0 last.1 last.2 last.3 in
    let long = ap length read.1 ∙ length-append c.args.self.now.items read.0 in
    let more = length-append read.0 (last.1 ∷ []) in
    let beyond : ¬ (HasRoomFor c.args.self.now (length items)) =
    λ room. omega (arith, room, long, more, read.2.1, c.in-Refused.ensures.capacity_never_falls) in
    record {
      items = (
        c.into_iter.result,
        c.into_iter.ensures.into_iter_gives,
        (read.0, read.1, (last.1, c.pour.new.iter, gave, beyond)),
      );
      runs = tt;
      refused_beyond_room = (
        c.into_iter.result,
        c.into_iter.ensures.into_iter_gives,
        some_from_yields steps c.into_iter.result c.pour.new.iter items
            (λ l n. (k : ℕ) × (n ≡ k + 1) × (c.pour.new.to.items ≡ c.args.self.now.items ++ take k l)
            × ¬ (HasRoomFor c.args.self.now n))
            gave (
              length read.0,
              more,
              read.1 ∙ ap (λ l. c.args.self.now.items ++ l) (sym (take-append_seam read.0 (last.1 ∷ []))),
              beyond,
            ),
      );
      room_never_falls = c.in-Refused.ensures.capacity_never_falls;
    }
