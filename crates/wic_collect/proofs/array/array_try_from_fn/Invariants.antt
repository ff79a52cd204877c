use Rattle.std.proofs.Common.{◌≡◌, Ok, map, length}
use Rattle.std.specs.List.{range_with_len}
use Rattle.std.specs.Fn.{Called}
use Rattle.wic_vec.specs.ClosureRun.{ClosureRun}
use Rattle.wic_collect.proofs.array.array_try_from_fn.Given as goal

abbrev pub invariant-loop-i : goal.invariant-loop-i
invariant-loop-i g l = record {
  callable : goal.F-IsAlwaysCallable g l.cb;
  as_many : length l.list.items ≡ l.i;
  run : ClosureRun (λ f x r next. Called g.F.FnMut f (x, tt) r next) l.initial.cb (range_with_len 0 l.i) (map Ok l.list.items) l.cb;
}
