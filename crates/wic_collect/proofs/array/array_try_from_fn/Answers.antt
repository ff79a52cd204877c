use Rattle.std.proofs.Common.{◌∷◌, [], ◌++◌, ◌+◌, ℕ, Result, map, length, Ok, Err, sym, ap, subst, ◌∙◌, arith, of_calls}
use Rattle.std.specs.Fn.{Called}
use Rattle.std.specs.List.{range_with_len}
use Rattle.std.proofs.iter.Next.{called}
use Rattle.std.proofs.lemmas.List.{length_push, map-append}
use Rattle.wic_vec.specs.ClosureRun.{ClosureRun}
use Rattle.wic_collect.proofs.CallFacts.{one_more_call}
use Rattle.wic_collect.proofs.array.array_try_from_fn.Goals as goal

pub returns-in-Err-clause-first_error : goal.returns-in-Err-clause-first_error
returns-in-Err-clause-first_error g c =
    let at = c.loop-i.invariant in
    let values = c.loop-i.list.items in
    let call =
    λ (f : g.row.F.Denot) (x : ℕ) (r : Result g.row.T.Denot g.row.E.Denot) (next : g.row.F.Denot). Called g.F.FnMut f (x, tt) r next in (
      c.loop-i.list.items,
      c.cb.new.self,
      omega (arith, at.as_many, c.loop-i-test.true),
      subst (λ n. ClosureRun call c.args.cb (range_with_len 0 (n + 1)) (map Ok values ++ Err c.in-Err.error ∷ []) c.cb.new.self)
          (sym at.as_many)
          (one_more_call call c.args.cb c.loop-i.cb c.cb.new.self c.loop-i.i _ (Err c.in-Err.error) at.run
          (called g.F.FnMut c.cb.ensures c.in-Err.is)),
    )

pub loop-i-preserved : goal.loop-i-preserved
loop-i-preserved g c =
    let at = c.loop-i.invariant in
    let call =
    λ (f : g.row.F.Denot) (x : ℕ) (r : Result g.row.T.Denot g.row.E.Denot) (next : g.row.F.Denot). Called g.F.FnMut f (x, tt) r next in
    let values = map-append Ok c.loop-i.list.items (c.in-Ok.value ∷ []) in
    record {
      callable = search of_calls;
      as_many = omega (arith, ap length c.push.ensures.items, length_push c.loop-i.list.items c.in-Ok.value, at.as_many);
      run = subst (λ l. ClosureRun call c.args.cb (range_with_len 0 (c.loop-i.i + 1)) l c.cb.new.self)
          (sym values ∙ ap (map Ok) (sym c.push.ensures.items))
          (one_more_call call c.args.cb c.loop-i.cb c.cb.new.self c.loop-i.i (map Ok c.loop-i.list.items) (Ok c.in-Ok.value)
          at.run (called g.F.FnMut c.cb.ensures c.in-Ok.is));
    }
