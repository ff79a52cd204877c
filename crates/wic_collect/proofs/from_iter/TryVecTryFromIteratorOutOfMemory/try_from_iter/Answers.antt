use Rattle.std.proofs.Common.{◌≡◌, ◌∷◌, [], Ok, refl, ap, ◌++◌, ◌∙◌}
use Rattle.std.specs.Bool.{⊤}
use Rattle.wic_collect.proofs.ReadingFacts.{drains_from_reads, yields_one_more}
use Rattle.wic_collect.proofs.RunFacts.{whole_from_drains, some_from_yields}
use Rattle.wic_collect.proofs.from_iter.TryVecTryFromIteratorOutOfMemory.try_from_iter.Goals as goal

pub returns-in-Ended : goal.returns-in-Ended
returns-in-Ended g c =
    let read = c.in-Ended.ensures.items in
    let steps = g.I.Iterator.next_gives in
    let drained = drains_from_reads steps (λ x. Ok x) (λ x. refl) c.args.iter c.pour.new.iter read.0 read.2.0 in
    let made = read.1 ∙ ap (λ l. l ++ read.0) c.new-items.ensures.empty in
    record {
      items = (read.0, drained, made);
      runs = whole_from_drains steps c.args.iter read.0 (λ l n. c.pour.new.to.items ≡ l) drained made;
    }

pub returns-in-Refused : goal.returns-in-Refused
returns-in-Refused g c =
    let read = c.in-Refused.ensures.items in
    let last = read.2.0 in
    let steps = g.I.Iterator.next_gives in
    let items = read.0 ++ last.1 ∷ [] in
    let gave = yields_one_more steps (λ x. Ok x) (λ x. refl) c.args.iter last.0 c.pour.new.iter read.0 last.1 last.2 last.3 in
    record {
      items = (items, c.pour.new.iter, gave, tt);
      runs = some_from_yields steps c.args.iter c.pour.new.iter items (λ l n. ⊤) gave tt;
    }
