use Rattle.std.proofs.Common.{◌≡◌, ◌≤◌, ap, sym, subst, ◌∙◌, arith}
use Rattle.std.specs.Int.{div_ceil}
use Rattle.std.specs.Ordering.{nat_cmp}
use Rattle.std.specs.FinSet.{contains-empty, empty, insert, len, remove}
use Rattle.wic_bitset.specs.Growth.{count_after}
use Rattle.wic_bitset.specs.Summary.{filled_words}
use Rattle.wic_bitset.proofs.ByWordFacts.{len-filled_words-empty}
use Rattle.wic_base.proofs.SetFacts.{remove-insert}
use Rattle.wic_bitset.proofs.callers.list_emptied.Goals as goal

pub returns : goal.returns
returns g c =
    let members = c.remove.ensures.members
    ∙ ap (λ s. remove s 64) (c.in_ok-insert.ensures.members ∙ ap (λ s. insert s 64) c.requires.empty)
    ∙ remove-insert empty 64 (contains-empty nat_cmp 64) in
    let words = c.remove.ensures.words ∙ c.in_ok-insert.ensures.words ∙ ap (λ n. count_after n 1) c.requires.words in
    let blocks : div_ceil c.remove.new.self.words 64 ≡ 1 = ap (λ n. div_ceil n 64) words in
    let filled = subst (λ s. len (filled_words 64 s) ≤ 0) (sym members) (omega (arith, len-filled_words-empty 64)) in
    omega (arith, blocks, filled, c.members.ensures.looks)
