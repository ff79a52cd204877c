-- Capacities that grow.
use Rattle.std.proofs.Common.{◌≡◌, sym, subst, arith}
use Rattle.batch_core.specs.Back.{Grows}
use Rattle.batch_core.specs.Workspace.{Workspace}

module _ {X : Type 0} where
  -- capacities that grew twice grew
  pub grows_twice : (a b c : Workspace X) → Grows a.capacities b.capacities → Grows b.capacities c.capacities
      → Grows a.capacities c.capacities
  grows_twice a b c near far = record {
    list = omega (arith, near.list, far.list);
    set = omega (arith, near.set, far.set);
    table = omega (arith, near.table, far.table);
    records = omega (arith, near.records, far.records);
  }

  -- capacities that stayed didn't fall
  pub grows_kept : (a b c : Workspace X) → Grows a.capacities b.capacities → c.capacities ≡ b.capacities → Grows a.capacities c.capacities
  grows_kept a b c grows same = subst (Grows a.capacities) (sym same) grows
