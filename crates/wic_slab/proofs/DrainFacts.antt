-- What calls of `next` of a `Drain` give, and what they leave.
use Rattle.std.proofs.Common.{◌≡◌, ◌⊎◌, ℕ, ◌+◌, ◌<◌, ◌≤◌, [], ◌∷◌, length, None, refl, ap, subst, ◌∙◌, inl, inr}
use Rattle.std.proofs.Common.{arith, nat_cmp}
use Rattle.std.proofs.lemmas.Bool.{cases_eq, cases_lt}
use Rattle.std.specs.Iterator.Runs.{YieldsInOrder}
use Rattle.std.specs.FinMap.{FinMap, get, remove, entries}
use Rattle.wic_slab.specs.Drain.{drain_pairs, DrainSteps, DrainKeeps, DrainKeepsAlong}
use Rattle.wic_slab.specs.declared.drain.Drain.{Drain}
use Rattle.wic_base.proofs.AlongFacts.{keeps_along, in_order_by_firsts}
use Rattle.wic_base.proofs.MapFacts.{entries_none, get-remove_same, get-remove_other}

module _ {X : Type 0} where
  -- no id is live outside the places from `place` to below `end`
  abbrev pub NoneOutside : FinMap nat_cmp X → ℕ → ℕ → Type 0
  NoneOutside live place end = (id : ℕ) → (id < place) ⊎ (end ≤ id) → get live id ≡ None

  -- once all places were visited, no pair is left
  pub entries_left : (live : FinMap nat_cmp X) (place end : ℕ) → end ≤ place → NoneOutside live place end → entries live ≡ []
  entries_left live place end done outside =
      entries_none live (λ q. elim (cases_lt q place) [ inl below ↦ outside q (inl below) | inr above ↦ outside q (inr (omega arith)) ])

  -- if no id is live outside the places from place to below end, nor at place, none is outside those from place + 1 on
  pub NoneOutside-past : (live : FinMap nat_cmp X) (place end : ℕ) → get live place ≡ None → NoneOutside live place end
      → NoneOutside live (place + 1) end
  NoneOutside-past live place end none outside id where_it_is =
      elim (cases_eq id place) [
        | inl same ↦ ap (get live) same ∙ none
        | inr differs ↦ outside id (elim where_it_is [ inl below ↦ inl (omega arith) | inr above ↦ inr above ])
      ]

  -- if no id is live outside the places from place to below end, none is outside those from place + 1 once place is taken out
  pub NoneOutside-removed : (live : FinMap nat_cmp X) (place end : ℕ) → NoneOutside live place end
      → NoneOutside (remove live place) (place + 1) end
  NoneOutside-removed live place end outside =
      NoneOutside-past (remove live place) place end (get-remove_same live place)
      (λ id where_it_is. elim (cases_eq id place) [
        | inl same ↦ ap (get (remove live place)) same ∙ get-remove_same live place
        | inr differs ↦ get-remove_other live place id differs ∙ outside id where_it_is
      ])

  -- the pairs that calls of `next` give are those that were still to come, in their order
  pub drain_in_order : YieldsInOrder (DrainSteps {T = X}) drain_pairs
  drain_in_order = in_order_by_firsts (DrainSteps {T = X}) drain_pairs (λ s t none. none.0.0) (λ s x t some. some.0)

  -- however many pairs are taken out of a drain, it drains the same slab and leaves it the same capacity
  pub drain_keeps_along : (first : Drain X) → DrainKeepsAlong first
  drain_keeps_along =
      keeps_along (DrainSteps {T = X}) DrainKeeps (λ s. (refl, refl)) (λ r s t one other. (other.0 ∙ one.0, other.1 ∙ one.1))
      (λ s t x step. step.1)
