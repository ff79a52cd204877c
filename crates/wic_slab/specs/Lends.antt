-- What a `Slab` ends as when a `&mut` to one of its values is returned.
use Rattle.std.specs.Prelude.{ℕ, Option}
use Rattle.std.specs.Borrow.{Lends, LendsIf, Fml, RattleType, MutBor}
use Rattle.wic_slab.specs.Slab.{Slab, with_value}
use Rattle.wic_slab.specs.contracts.slab.Slab.{the_row}

module _ (T : RattleType) (s : MutBor (Slab T.Denot)) (id : ℕ) where
  -- the last value written through r is the one that is held under the id
  abbrev pub lends_value : MutBor T.Denot → Fml
  lends_value r = Lends (the_row T) T s r (with_value s.now id)

  -- the same if there is a reference; at `None` the slab stays as it is
  abbrev pub lends_get : Option (MutBor T.Denot) → Fml
  lends_get r = LendsIf (the_row T) T s r (with_value s.now id) s.now
