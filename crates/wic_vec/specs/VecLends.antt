-- What a `TryVec` is once a `&mut` into it is done with.
use Rattle.std.specs.Prelude.{ℕ, List, Option}
use Rattle.std.specs.Borrow.{Lends, LendsIf, follows, Fml, RattleType, MutBor, Array}
use Rattle.std.specs.declared.slice.IterMut.{IterMut}
use Rattle.std.specs.Slice.Iter.{iter_mut_name}
use Rattle.wic_vec.specs.TryVec.{TryVec, with_item, with_items}
use Rattle.wic_vec.specs.contracts.vec.TryVec.{the_row}

module _ (T : RattleType) (v : MutBor (TryVec T.Denot)) where
  -- the elements are those that stand last in the slice, and the capacity stays
  abbrev pub lends_slice : MutBor (List T.Denot) → Fml
  lends_slice r = Lends (the_row T) (Array T 0) v r (with_items v.now)

  -- the same when the elements are lent one by one
  abbrev pub lends_iter : IterMut T.Denot → Fml
  lends_iter it = follows (the_row T) (Array T 0) v.ghost_name (iter_mut_name it) (with_items v.now)

  -- place i has what is written last through r, and all else stays
  abbrev pub lends_item : ℕ → MutBor T.Denot → Fml
  lends_item i r = Lends (the_row T) T v r (with_item v.now i)

  -- the same if there is such a place, and if there is none all stays
  abbrev pub lends_get : ℕ → Option (MutBor T.Denot) → Fml
  lends_get i r = LendsIf (the_row T) T v r (with_item v.now i) v.now
