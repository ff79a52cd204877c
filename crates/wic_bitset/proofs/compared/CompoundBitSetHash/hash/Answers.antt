use Rattle.std.proofs.Common.{length, sym, ap, ◌∙◌}
use Rattle.std.specs.List.{flat_map, fold}
use Rattle.std.specs.Hash as fed
use Rattle.wic_bitset.specs.Rising.{rising}
use Rattle.wic_bitset.proofs.RisingFacts.{length-rising}
use Rattle.wic_bitset.proofs.compared.CompoundBitSetHash.hash.Goals as goal

pub loop-x-init : goal.loop-x-init
loop-x-init g c =
    let write = g.H.Hasher.write in
    let members = c.args.self.now.members in
    ap (λ s. fold write s (flat_map fed.usize c.into_iter-x-iterator.result))
    (c.write_usize.ensures ∙ ap (λ n. write c.args.state.now (fed.le_bytes 8 n)) (c.len.ensures.len ∙ sym (length-rising members)))
    ∙ ap (λ xs. fold write (fold write c.args.state.now (fed.usize (length (rising members)))) (flat_map fed.usize xs))
    c.into_iter-x-iterator.ensures.into_iter_gives
