-- Contents that are the same, at a type whose comparison is equality.
use Rattle.std.proofs.Common.{◌≡◌, ◌&&◌, ℕ, Bool, true, false, refl, ap, ◌∙◌}
use Rattle.std.specs.Prelude.{◌↔◌, ◌==◌}
use Rattle.std.specs.Bool.{Decides}
use Rattle.std.specs.Cmp.{unsigned_Decides}
use Rattle.std.specs.Cmp.Lexicographic.{pointwise_decides}
use Rattle.std.specs.FinMap.{entries, same_entries_map}
use Rattle.batch_core.specs.State.{Contents}
use Rattle.batch_core.specs.Same.{same_pair, HaveSameContents}

and_true : (a b : Bool) → (a && b) ≡ true → (a ≡ true) × (b ≡ true)
and_true true b holds = (refl, holds)
and_true false b holds = absurd (cc)

module _ {X : Type 0} (equal : X → X → Bool) (tells : (a b : X) → Decides (equal a b) (a ≡ b)) where
  same_pair-Decides : (p q : ℕ × X) → Decides (same_pair equal p q) (p ≡ q)
  same_pair-Decides p q = (
    λ holds.
        let both = and_true (p.0 == q.0) (equal p.1 q.1) holds in
        let id = (unsigned_Decides p.0 q.0).0 both.0 in
        let value = (tells p.1 q.1).0 both.1 in
        (λ i. (id i, value i)),
    λ same. ap (λ test. test && equal p.1 q.1) ((unsigned_Decides p.0 q.0).1 (ap (λ r. r.0) same))
        ∙ (tells p.1 q.1).1 (ap (λ r. r.1) same),
  )

  -- contents are the same exactly when list, set and live values are equal
  pub same_contents_from_equal : (c d : Contents X) → HaveSameContents equal c d
      ↔ ((c.list ≡ d.list) × (c.set ≡ d.set) × (c.live ≡ d.live))
  same_contents_from_equal c d =
      let lists = pointwise_decides tells c.list d.list in
      let pairs = pointwise_decides same_pair-Decides (entries c.live) (entries d.live) in (
        λ same. (lists.0 same.list, same.set, same_entries_map c.live d.live (pairs.0 same.live)),
        λ same. record { list = lists.1 same.0; set = same.1; live = pairs.1 (ap entries same.2) },
      )
