-- What a guard is once a `&mut` to its value is done with.
use Rattle.std.specs.Borrow.{Lends, Fml, RattleType, MutBor}
use Rattle.wic_base.specs.declared.undo.Undo.{Undo}
use Rattle.wic_base.specs.contracts.undo.Undo.{the_row}

-- the guard with this value held, and the same function
abbrev pub with_inner : {T F R : Type 0} → Undo T F R → T → Undo T F R
with_inner guard value = record guard { inner = value }

-- the last value written through the reference is the one that is held, and the function stays
abbrev pub lends_inner : (T F R : RattleType) → MutBor (Undo T.Denot F.Denot R.Denot) → MutBor T.Denot → Fml
lends_inner T F R guard r = Lends (the_row T F R) T guard r (with_inner guard.now)
