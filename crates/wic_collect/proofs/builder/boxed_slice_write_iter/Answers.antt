use Rattle.std.proofs.Common.{◌≡◌, ◌+◌, ◌<◌, ◌++◌, length, sym, ap, ◌∙◌, refl, Ok, arith, length-append}
use Rattle.wic_collect.proofs.ReadingFacts.{yields_from_reads, drains_from_reads}
use Rattle.wic_collect.proofs.RunFacts.{whole_from_drains, some_from_yields}
use Rattle.wic_collect.proofs.builder.boxed_slice_write_iter.Goals as goal

pub returns-in-Full : goal.returns-in-Full
returns-in-Full g c =
    let read = c.in-Full.ensures.items in
    let same = ap (λ b. b.items) c.builder.view_is in
    let full = ap (λ b. b.capacity) c.builder.view_is in
    let limit = read.2.1 in
    let as_many : length c.pour.new.to.items ≡ c.builder.inside.len = cc in
    let steps = g.I.IntoIter.Iterator.next_gives in
    let gave = yields_from_reads steps (λ x. Ok x) (λ x. refl) c.into_iter.result c.pour.new.iter read.0 read.2.0 in
    let made = c.of.ensures.items ∙ read.1 ∙ ap (λ l. l ++ read.0) same in
    let long = ap length c.of.ensures.items ∙ as_many ∙ full in
    record {
      items = (long, (c.into_iter.result, c.into_iter.ensures.into_iter_gives, (read.0, c.pour.new.iter, gave, made)));
      too_few = tt;
      runs = (
        c.into_iter.result,
        c.into_iter.ensures.into_iter_gives,
        some_from_yields steps c.into_iter.result c.pour.new.iter read.0
            (λ l n. (c.of.result ≡ c.args.builder.items ++ l) × (length c.args.builder.items + n ≡ c.args.builder.capacity)) gave
            (made, sym (length-append c.args.builder.items read.0) ∙ sym (ap length made) ∙ long),
      );
      too_few_run = tt;
    }

pub returns-in-Ended : goal.returns-in-Ended
returns-in-Ended g c =
    let read = c.in-Ended.ensures.items in
    let same = ap (λ b. length b.items) c.builder.view_is in
    let full = ap (λ b. b.capacity) c.builder.view_is in
    let long = ap length read.1 ∙ length-append c.builder.inside.items.items read.0 in
    let steps = g.I.IntoIter.Iterator.next_gives in
    let drained = drains_from_reads steps (λ x. Ok x) (λ x. refl) c.into_iter.result c.pour.new.iter read.0 read.2.0 in
    let few : length c.args.builder.items + length read.0 < c.args.builder.capacity = omega (arith, long, same, full, read.2.1) in
    record {
      items = tt;
      too_few = (c.into_iter.result, c.into_iter.ensures.into_iter_gives, (read.0, drained, few));
      runs = tt;
      too_few_run = (
        c.into_iter.result,
        c.into_iter.ensures.into_iter_gives,
        whole_from_drains steps c.into_iter.result read.0 (λ l n. length c.args.builder.items + n < c.args.builder.capacity)
            drained few,
      );
    }
