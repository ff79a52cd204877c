-- What a cow is once a `&mut` into it is done with.
use Rattle.std.specs.Prelude.{Result}
use Rattle.std.specs.Borrow.{Lends, LendsIfOk, Fml, RattleType, MutBor}
use Rattle.wic_collect.specs.declared.cow.TryCowOf.{TryCowOf}
use Rattle.wic_collect.specs.declared.cow.TryCowOf.TheVariants.{Owned}
use Rattle.wic_collect.specs.contracts.cow.TryCowOf.{the_row}

module _ (R O : RattleType) (c : MutBor (TryCowOf R.Denot O.Denot)) where
  -- it owns what is written last
  abbrev pub lends_owned : MutBor O.Denot → Fml
  lends_owned x = Lends (the_row R O) O c x (λ last. Owned last)

  -- the same, and after a refusal it is as it was
  abbrev pub lends_owned_or_stays : {E : Type 0} → Result (MutBor O.Denot) E → Fml
  lends_owned_or_stays r = LendsIfOk (the_row R O) O c r (λ last. Owned last) c.now
