-- Blocks of a graph that changes, and that its edges stay within it.
use Rattle.std.proofs.Common.{⊎_elim, ◌≡◌, ◌⊎◌, inl, inr, ℕ, zero, suc, ◌<◌, true, false, List, [], ◌∷◌, ◌++◌, length, set, slice_get}
use Rattle.std.proofs.Common.{Some, sym, ap, ◌∙◌, arith}
use Rattle.std.specs.Prelude.{nat_eq}
use Rattle.std.specs.List.{list_any}
use Rattle.std.proofs.Math.ListN.{length-set}
use Rattle.std.proofs.lemmas.Bool.{cases_eq, or_cases, or_left, or_right, eqb-true}
use Rattle.std.proofs.lemmas.List.{get_or-set_same, get_or-set_other}
use Rattle.liveness.specs.declared.graph.Block.{Block}
use Rattle.liveness.specs.Graph.{Body, block, EdgesStayWithin, IsSuccessor, with_edge}

-- what an index gives
pub block_is : (g : List Body) (b : ℕ) (body : Body) → slice_get g b ≡ Some body → block g b ≡ body
block_is [] b body h = absurd (cc)
block_is (x ∷ g) zero body h = cc
block_is (x ∷ g) (suc b) body h = block_is g b body h

-- the edges of a block that was visited
pub edges_within : (g : List Body) (b : ℕ) (body : Body) → EdgesStayWithin g → slice_get g b ≡ Some body
    → (c : ℕ) → IsSuccessor body c → c < length g
edges_within g b body within at_b c among = within b c (rw (block_is g b body at_b) among)

-- a block that is written over itself
set_itself : (g : List Body) (b : ℕ) (body : Body) → slice_get g b ≡ Some body → set g b body ≡ g
set_itself [] b body h = absurd (cc)
set_itself (x ∷ g) zero body h = let e : x ≡ body = cc in ap (λ y. y ∷ g) (sym e)
set_itself (x ∷ g) (suc b) body h = ap (λ y. x ∷ y) (set_itself g b body h)

-- a body that is as before, written over itself
pub set_kept : (g : List Body) (b : ℕ) (old new : Body) → slice_get g b ≡ Some old → new ≡ old → set g b new ≡ g
set_kept g b old new at_b is = ap (set g b) is ∙ set_itself g b old at_b

-- another body for one block
pub edges_set : (g : List Body) (b : ℕ) (body : Body) → b < length g → EdgesStayWithin g
    → ((c : ℕ) → IsSuccessor body c → c < length g) → EdgesStayWithin (set g b body)
edges_set g b body below within new d c among = rw (length-set g b body) (⊎_elim
    (λ same.
    let is : block (set g b body) d ≡ body = ap (block (set g b body)) same ∙ get_or-set_same g b body ([], []) below in
    new c (rw (← is) among))
    (λ apart.
    let is : block (set g b body) d ≡ block g d = get_or-set_other g b d body ([], []) apart in
    within d c (rw (← is) among))
    (cases_eq d b))

-- a successor more
pub successor_pushed : (cs : List Block) (to : Block) (c : ℕ) → list_any (λ s. nat_eq s.0 c) (cs ++ to ∷ []) ≡ true
    → (list_any (λ s. nat_eq s.0 c) cs ≡ true) ⊎ (to.0 ≡ c)
successor_pushed [] to c h = ⊎_elim (λ here. inr (eqb-true to.0 c here)) (λ later. absurd (cc)) (or_cases (nat_eq to.0 c) false h)
successor_pushed (x ∷ cs) to c h = ⊎_elim
    (λ here. inl (or_left _ _ here))
    (λ later. ⊎_elim (λ old. inl (or_right _ _ old)) (λ new. inr new) (successor_pushed cs to c later))
    (or_cases (nat_eq x.0 c) _ h)

-- edges stay within a graph when a block of it gets one more successor, which is a block of it too
pub edges_added : (g : List Body) (from : ℕ) (to : Block) (old new : Body) → from < length g → to.0 < length g → EdgesStayWithin g
    → slice_get g from ≡ Some old
    → new ≡ (old.0, old.1 ++ to ∷ []) → EdgesStayWithin (set g from new)
edges_added g from to old new below within_to within at_from is = edges_set g from new below within (λ c among. ⊎_elim
    (λ before. edges_within g from old within at_from c before)
    (λ e. let lt : to.0 < length g = within_to in let same : to.0 ≡ c = e in omega arith)
    (successor_pushed old.1 to c (rw (← ap (λ (x : Body). x.1) is) among)))

-- writing over a block its old body with one more successor adds the edge to that successor
pub edge_added : (g : List Body) (from : ℕ) (to : Block) (old new : Body) → slice_get g from ≡ Some old → new ≡ (old.0, old.1 ++ to ∷ [])
    → set g from new ≡ with_edge g from to
edge_added g from to old new at_from is =
    let e = block_is g from old at_from in
    ap (set g from) (is ∙ ap (λ (x : Body). (x.0, x.1 ++ to ∷ [])) (sym e))
