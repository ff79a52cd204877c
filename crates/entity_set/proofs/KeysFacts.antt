-- Sets whose members are below a limit, sets with the same parts, and what follows on Ok.
use Rattle.std.proofs.Common.{⊎_elim, ◌≡◌, ℕ, ◌<◌, Result, Ok, Err, sym, ap, ◌∙◌, arith}
use Rattle.std.specs.Prelude.{IsOk, OnOk, OnErr}
use Rattle.std.specs.Ordering.{nat_cmp}
use Rattle.std.specs.Cmp.{nat_cmp_total}
use Rattle.std.specs.FinSet.{FinSet, empty, contains, insert, remove, union, intersection, difference}
use Rattle.std.specs.FinSet.{contains-union, contains-intersection, contains-difference}
use Rattle.std.proofs.lemmas.Bool.{cases_eq, and_parts, or_cases}
use Rattle.wic_base.specs.Sets.{AllBelow}
use Rattle.wic_base.proofs.SetFacts.{none_in_empty, same_after_insert, was_before_remove}
use Rattle.entity_set.specs.Entities.{Entities}

module _ (n : ℕ) where
  -- no members
  pub below-empty : (s : FinSet nat_cmp) → s ≡ empty → AllBelow n s
  below-empty s none i has = absurd (let absent = none_in_empty s none i in cc)

  -- one number more, which is below
  pub below-insert : (s t : FinSet nat_cmp) (k : ℕ) → k < n → t ≡ insert s k → AllBelow n s → AllBelow n t
  below-insert s t k below put old i has = ⊎_elim
      (λ same. omega arith)
      (λ apart. old i (sym (same_after_insert s k i apart) ∙ sym (ap (λ x. contains x i) put) ∙ has))
      (cases_eq i k)

  -- one less
  pub below-remove : (s t : FinSet nat_cmp) (k : ℕ) → t ≡ remove s k → AllBelow n s → AllBelow n t
  below-remove s t k taken old i has = old i (was_before_remove s k i (sym (ap (λ x. contains x i) taken) ∙ has))

  -- those of two sets
  pub below-union : (s t r : FinSet nat_cmp) → r ≡ union s t → AllBelow n s → AllBelow n t → AllBelow n r
  below-union s t r joined one other i has = ⊎_elim (one i) (other i)
      (or_cases (contains s i) (contains t i) (sym (ap (λ x. contains x i) joined ∙ contains-union nat_cmp_total s t i) ∙ has))

  -- the members that s has in common with t are below n if those of s are
  pub below-intersection : (s t r : FinSet nat_cmp) → r ≡ intersection s t → AllBelow n s → AllBelow n r
  below-intersection s t r met old i has =
      old i ((and_parts (contains s i) (contains t i)
      (sym (ap (λ x. contains x i) met ∙ contains-intersection nat_cmp_total s t i) ∙ has)).0)

  -- the members that s has and t lacks are below n if those of s are
  pub below-difference : (s t r : FinSet nat_cmp) → r ≡ difference s t → AllBelow n s → AllBelow n r
  below-difference s t r parted old i has =
      old i ((and_parts (contains s i) _ (sym (ap (λ x. contains x i) parted ∙ contains-difference nat_cmp_total s t i) ∙ has)).0)

-- what follows on Ok and on Err follows
pub either_way : {T E A B P : Type 0} (r : Result T E) → OnOk r A → OnErr r B → (A → P) → (B → P) → P
either_way (Ok x) good bad on_ok on_err = on_ok good
either_way (Err e) good bad on_ok on_err = on_err bad

-- what holds on Ok, if it is Ok
pub on_ok : {T E P : Type 0} (r : Result T E) → IsOk r → OnOk r P → P
on_ok (Ok x) ok p = p
on_ok (Err e) ok p = absurd (cc)

-- two sets are the same if their parts are
pub same_entities : (s t : Entities) → s.members ≡ t.members → s.capacity ≡ t.capacity → s ≡ t
same_entities s t members capacity = λ j. record { members = members j; capacity = capacity j }
