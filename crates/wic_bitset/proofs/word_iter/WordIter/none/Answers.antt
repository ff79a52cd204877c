use Rattle.std.proofs.Common.{◌+◌, map, ap, ◌∙◌}
use Rattle.wic_scalar.proofs.MemberFacts.{no_members_of_empty}
use Rattle.wic_bitset.proofs.word_iter.WordIter.none.Goals as goal

pub returns : goal.returns
returns g c = c.new-2.ensures ∙ ap (map (λ j. 0 + j)) (no_members_of_empty _ _ c.new.ensures)
