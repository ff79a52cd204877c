use Rattle.std.proofs.Common.{◌+◌, ◌∷◌, drop, sym, ap, subst, ◌∙◌, arith, true≢false}
use Rattle.std.proofs.lemmas.List.{drop_more, drop_all}
use Rattle.std.proofs.lemmas.Bool.{eqb-true, eq-eqb}
use Rattle.batch_nest.specs.Nest.{IsBalanced}
use Rattle.batch_nest.proofs.LineFacts.{Steps, after_line, balanced_in_the_end, step_begin, step_command, step_end, unbalanced_end}
use Rattle.batch_nest.proofs.nest.Nest.is_balanced.Goals.{in-Command, in-Begin, in-Commit+else-depth-eq0}
use Rattle.batch_nest.proofs.nest.Nest.is_balanced.Goals as goal

pub returns-then-depth-eq0 : goal.returns-then-depth-eq0
returns-then-depth-eq0 g c =
    let items = c.deref-line-items.result.now in
    let line = c.line-item.result in
    let split = drop_more items c.loop-line.line-index line c.loop-line-test.true ∙ ap (λ l. l ∷ drop (c.loop-line.line-index + 1) items)
    (sym c.line-item.is) in
    let never = unbalanced_end items _ line _ c.loop-line.depth split c.in-Commit.is c.if-depth-eq0.true c.loop-line.invariant.left in
    record {
      balanced = (
        λ t. absurd (true≢false (sym t)),
        λ balanced. absurd (never (subst IsBalanced (sym c.deref-line-items.ensures) balanced)),
      );
    }

pub loop-line-preserved : goal.loop-line-preserved
loop-line-preserved g c =
    let items = c.deref-line-items.result.now in
    let line = c.line-item.result in
    let split = drop_more items c.loop-line.line-index line c.loop-line-test.true ∙ ap (λ l. l ∷ drop (c.loop-line.line-index + 1) items)
    (sym c.line-item.is) in
    let now = c.loop-line.invariant.left in
    let few = c.loop-line.invariant.few in
    elim c.match-line.branch [
      | in-Command w ↦ record {
        left = after_line items _ line _ _ _ split
            (subst (λ next. Steps c.loop-line.depth next line) (sym w.depth-is) (step_command line _ _ w.in-Command.is)) now;
        few = omega (arith, few, w.depth-is);
      }
      | in-Begin w ↦ record {
        left = after_line items _ line _ _ _ split (step_begin line _ _ w.in-Begin.is w.depth-is) now;
        few = omega (arith, few, w.depth-is);
      }
      | in-Commit+else-depth-eq0 w ↦ record {
        left = after_line items _ line _ _ _ split
            (step_end line _ _ w.in-Commit.is (omega (arith, w.depth-is, w.if-depth-eq0.false))) now;
        few = omega (arith, few, w.depth-is);
      }
    ]

pub returns : goal.returns
returns g c =
    let items = c.deref-line-items.result.now in
    let none = drop_all c.loop-line.line-index items c.loop-line-test.false in
    let ends = balanced_in_the_end items (drop c.loop-line.line-index items) c.loop-line.depth none c.loop-line.invariant.left in
    record {
      balanced = (
        λ t. subst IsBalanced c.deref-line-items.ensures (ends.0 (eqb-true c.loop-line.depth 0 t)),
        λ balanced. eq-eqb c.loop-line.depth 0 (ends.1 (subst IsBalanced (sym c.deref-line-items.ensures) balanced)),
      );
    }
