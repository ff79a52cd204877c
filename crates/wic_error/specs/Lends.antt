-- What an error is once a `&mut` to one of its links is done with.
use Rattle.std.specs.Prelude.{ℕ, Option}
use Rattle.std.specs.Borrow.{LendsIf, Fml, RattleType, MutBor}
use Rattle.wic_error.specs.Error.{Error, with_first}
use Rattle.wic_error.specs.Kept.{with_kept}
use Rattle.wic_error.specs.declared.repr.Repr.{Repr}
use Rattle.wic_error.specs.contracts.repr.Repr.{the_row as repr_row}
use Rattle.wic_error.specs.contracts.error.Error.{the_row as error_row}

-- the link at this place is what is written last through r, and if there is none all stays
abbrev pub lends_kept : (K : RattleType) → MutBor (Repr K.Denot) → ℕ → Option (MutBor K.Denot) → Fml
lends_kept K e place r = LendsIf (repr_row K) K e r (with_kept e.now place) e.now

-- the first link with the number is what is written last through r, and if there is none all stays
abbrev pub lends_first : (K : RattleType) → (K.Denot → ℕ) → MutBor (Error K.Denot) → ℕ → Option (MutBor K.Denot) → Fml
lends_first K number e wanted r = LendsIf (error_row K) K e r (with_first number wanted e.now) e.now
