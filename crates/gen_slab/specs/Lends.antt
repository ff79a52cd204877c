-- What a generational slab ends as when a `&mut` to one of its values is returned.
use Rattle.std.specs.Prelude.{Option}
use Rattle.std.specs.Borrow.{Lends, LendsIf, Fml, RattleType, MutBor}
use Rattle.gen_slab.specs.Handle.{Handle}
use Rattle.gen_slab.specs.GenSlab.{GenSlab, rewritten}
use Rattle.gen_slab.specs.contracts.slab.GenerationalSlab.{the_row}

-- the slab with this value under the handle
abbrev pub with_value : {T : Type 0} → GenSlab T → Handle → T → GenSlab T
with_value s handle value = record s { state = rewritten s.state handle value }

module _ (T : RattleType) (s : MutBor (GenSlab T.Denot)) (handle : Handle) where
  -- the last value written through r is the one of the handle
  abbrev pub lends_value : MutBor T.Denot → Fml
  lends_value r = Lends (the_row T) T s r (with_value s.now handle)

  -- the same if there is a reference; at `None` the slab stays as it is
  abbrev pub lends_get : Option (MutBor T.Denot) → Fml
  lends_get r = LendsIf (the_row T) T s r (with_value s.now handle) s.now
