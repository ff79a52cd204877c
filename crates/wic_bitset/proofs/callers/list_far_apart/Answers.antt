use Rattle.std.proofs.Common.{◌≡◌, ◌≤◌, ap, sym, subst, ◌∙◌, arith}
use Rattle.std.specs.Int.{div_ceil}
use Rattle.std.specs.FinSet.{empty, insert, len}
use Rattle.wic_bitset.specs.Growth.{count_after}
use Rattle.wic_bitset.specs.Summary.{filled_words}
use Rattle.wic_bitset.proofs.ByWordFacts.{len-filled_words-empty, len-filled_words-insert}
use Rattle.wic_bitset.proofs.callers.list_far_apart.Goals as goal

pub returns : goal.returns
returns g c =
    let one = c.in_ok-insert.ensures.members ∙ ap (λ s. insert s 0) c.requires.empty in
    let two = c.in_ok-insert-2.ensures.members ∙ ap (λ s. insert s 10000000) one in
    let words = c.in_ok-insert-2.ensures.words
    ∙ ap (λ n. count_after n 156250) (c.in_ok-insert.ensures.words ∙ ap (λ n. count_after n 0) c.requires.words) in
    let blocks : div_ceil c.insert-2.new.self.words 64 ≡ 2442 = ap (λ n. div_ceil n 64) words in
    let none = len-filled_words-empty 64 in
    let first = len-filled_words-insert 64 empty 0 in
    let second = len-filled_words-insert 64 (insert empty 0) 10000000 in
    let filled = subst (λ s. len (filled_words 64 s) ≤ 2) (sym two) (omega (arith, none, first, second)) in
    omega (arith, blocks, filled, c.members.ensures.looks)
