use Rattle.std.proofs.Common.{◌≡◌, ◌+◌, ◌∷◌, ◌++◌, [], sym, ap, subst, ◌∙◌, arith, append_assoc, length, length-append}
use Rattle.batch_core.specs.Back.{CanGoBack, CanUndo, undo_record}
use Rattle.batch_core.proofs.BackFacts.{can_last}
use Rattle.batch_core.proofs.store.Store.back_to.Goals as goal

pub undo-requires : goal.undo-requires
undo-requires g c =
    let s = c.loop-self.self in
    let taken = c.take_record.new.self in
    let newest = c.in-Some.newest in
    let can = can_last s.capacities taken.records newest s.contents
    (subst (λ rs. CanGoBack s.capacities rs s.contents) c.in-Some.ensures.last c.loop-self.invariant.1) in
    record {
      can = subst (λ v. CanUndo v newest taken.contents) (sym c.take_record.ensures.capacities)
          (subst (CanUndo s.capacities newest) (sym c.take_record.ensures.contents) can.1);
    }

pub loop-self-preserved : goal.loop-self-preserved
loop-self-preserved g c =
    let first = c.args.self.now in
    let s = c.loop-self.self in
    let taken = c.take_record.new.self in
    let after = c.undo.new.self in
    let newest = c.in-Some.newest in
    let last = c.in-Some.ensures.last in
    let inv = c.loop-self.invariant in
    let undone = inv.0.0 in
    let can = can_last s.capacities taken.records newest s.contents (subst (λ rs. CanGoBack s.capacities rs s.contents) last inv.1) in
    let contents : after.contents ≡ undo_record newest s.contents = c.undo.ensures.contents
    ∙ ap (undo_record newest) c.take_record.ensures.contents in
    let records : first.records ≡ after.records ++ newest ∷ undone =
    inv.0.1 ∙ ap (λ rs. rs ++ undone) last ∙ append_assoc taken.records (newest ∷ []) undone
    ∙ ap (λ rs. rs ++ newest ∷ undone) (sym c.undo.ensures.records) in
    let capacities : after.capacities ≡ s.capacities = c.undo.ensures.capacities ∙ c.take_record.ensures.capacities in
    let left : length s.records ≡ length after.records + 1 =
    ap length last ∙ length-append taken.records (newest ∷ []) ∙ ap (λ rs. length rs + 1) (sym c.undo.ensures.records) in (
      (newest ∷ undone, records, contents ∙ ap (undo_record newest) inv.0.2),
      subst (λ v. CanGoBack v after.records after.contents) (sym capacities)
          (subst (λ rs. CanGoBack s.capacities rs after.contents) (sym c.undo.ensures.records)
          (subst (CanGoBack s.capacities taken.records) (sym contents) can.0)),
      omega (arith, left, c.mark.ensures.mark, c.loop-self-test.true),
      c.undo.ensures.room ∙ c.take_record.ensures.room ∙ inv.3,
      capacities ∙ inv.4,
    )
