use Rattle.std.proofs.Common.{◌+◌, map, ap, ◌∙◌}
use Rattle.wic_scalar.specs.Scalar.{members_of}
use Rattle.wic_bitset.proofs.ByWordFacts.{map-members_of}
use Rattle.wic_bitset.proofs.store.Store.iter_word.Goals as goal

pub returns : goal.returns
returns g c =
    let w = g.T.ScalarBitSetStorage.width in
    record {
      members = c.new.ensures
          ∙ ap (λ n. map (λ j. n + j) (members_of w (g.T.ScalarBitSetStorage.number c.word.result.0))) c.start.ensures.start
          ∙ map-members_of w c.args.self.now.members c.args.k _ c.word.ensures;
    }
