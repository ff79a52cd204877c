-- Exposed uses, and what a path and its end say of each other.
use Rattle.std.proofs.Common.{⊎_elim, ◌≡◌, ℕ, ◌<◌, Bool, true, false, not, List, [], ◌∷◌, ◌++◌}
use Rattle.std.proofs.Common.{length, refl, ap, ◌∙◌, ◌↔◌, inl, inr, arith}
use Rattle.std.specs.Prelude.{◌==◌, nat_eq}
use Rattle.std.specs.List.{list_any}
use Rattle.std.proofs.lemmas.Bool.{or_cases, and_parts, eqb-true, eq-eqb, or_left, or_right, and_from, not-true, or_parts}
use Rattle.std.proofs.lemmas.Bool.{both_ways, not_from_false}
use Rattle.liveness.specs.Graph.{Body, block, EdgesStayWithin, defines, HasExposedUse}
use Rattle.liveness.specs.Live.{FlowsInto, IsLivePath, IsLive}
use Rattle.liveness.specs.Passes.{exposes, needs, IsClosed, IsSound}
use Rattle.liveness.specs.declared.graph.Block.{Block}
use Rattle.liveness.specs.declared.graph.Op.{Op}
use Rattle.liveness.specs.declared.graph.Op.TheVariants.{Use, Def}

-- an exposed use stays exposed behind an op that doesn't define its variable
exposed_later : (o : Op) (ops : List Op) (v : ℕ) → (defines (o ∷ []) v ≡ false) → HasExposedUse ops v → HasExposedUse (o ∷ ops) v
exposed_later (Use w) ops v apart h =
    record { before = Use w ∷ h.before; after = h.after; parts = ap (λ t. Use w ∷ t) h.parts; undefined = h.undefined }
exposed_later (Def w) ops v apart h = record {
  before = Def w ∷ h.before;
  after = h.after;
  parts = ap (λ t. Def w ∷ t) h.parts;
  undefined = let u = h.undefined in grind arith;
}

-- the test finds only exposed uses
pub exposed_from_test : (ops : List Op) (v : ℕ) → exposes ops v ≡ true → HasExposedUse ops v
exposed_from_test [] v h = absurd (cc)
exposed_from_test (Use w ∷ ops) v h = ⊎_elim
    (λ here. record {
      before = [];
      after = ops;
      parts = ap (λ x. Use (record { 0 = x }) ∷ ops) (eqb-true w.0 v here);
      undefined = refl;
    })
    (λ later. exposed_later (Use w) ops v refl (exposed_from_test ops v later))
    (or_cases (w.0 == v) (exposes ops v) h)
exposed_from_test (Def w ∷ ops) v h =
    let both = and_parts (not (w.0 == v)) (exposes ops v) h in
    let apart : (w.0 == v) ≡ false = not-true _ both.0 in
    exposed_later (Def w) ops v (rw apart refl) (exposed_from_test ops v both.1)

-- the test finds a use before which nothing defines its variable
test_at : (before after : List Op) (v : ℕ) → defines before v ≡ false → exposes (before ++ Use (record { 0 = v }) ∷ after) v ≡ true
test_at [] after v h = or_left _ _ (eq-eqb v v refl)
test_at (Use w ∷ before) after v h = or_right _ _ (test_at before after v h)
test_at (Def w ∷ before) after v h =
    let both = or_parts (w.0 == v) (defines before v) h in
    and_from _ _ (not_from_false _ both.0) (test_at before after v both.1)

-- and finds each
pub test_from_exposed : (ops : List Op) (v : ℕ) → HasExposedUse ops v → exposes ops v ≡ true
test_from_exposed ops v h = rw h.parts (test_at h.before h.after v h.undefined)

-- if m holds of some block among cs, there is a c that is among cs and of which m holds
pub any_member : (m : ℕ → Bool) (cs : List Block) → list_any (λ s. m s.0) cs ≡ true
    → (c : ℕ) × ((list_any (λ s. nat_eq s.0 c) cs ≡ true) × (m c ≡ true))
any_member m [] h = absurd (cc)
any_member m (x ∷ cs) h = ⊎_elim
    (λ here. (x.0, (or_left _ _ (eq-eqb x.0 x.0 refl), here)))
    (λ later. let found = any_member m cs later in (found.0, (or_right _ _ found.1.0, found.1.1)))
    (or_cases (m x.0) (list_any (λ s. m s.0) cs) h)

-- if m holds of a c among cs, it holds of some block among cs
any_from_member : (m : ℕ → Bool) (cs : List Block) (c : ℕ) → list_any (λ s. nat_eq s.0 c) cs ≡ true → m c ≡ true
    → list_any (λ s. m s.0) cs ≡ true
any_from_member m [] c h one = absurd (cc)
any_from_member m (x ∷ cs) c h one = ⊎_elim
    (λ here. or_left _ _ (ap m (eqb-true x.0 c here) ∙ one))
    (λ later. or_right _ _ (any_from_member m cs c later one))
    (or_cases (nat_eq x.0 c) (list_any (λ s. nat_eq s.0 c) cs) h)

-- if v is live at each block of m, it is live at each block that needs it
pub live_from_needs : (g : List Body) (v : ℕ) (m : ℕ → Bool) (b : ℕ) → IsSound g v m → needs g v m b ≡ true → IsLive g v b
unfolding needs
live_from_needs g v m b sound h = ⊎_elim
    (λ exposed. ([], exposed_from_test _ v exposed))
    (λ passed.
    let both = and_parts (not (defines (block g b).0 v)) (list_any (λ s. m s.0) (block g b).1) passed in
    let next = any_member m _ both.1 in
    let live = sound next.0 next.1.1 in
    (next.0 ∷ live.0, (not-true _ both.0, (next.1.0, live.1))))
    (or_cases (exposes (block g b).0 v) _ h)

-- if each block that needs v is in m, each block with a path to a use of v is in m
closed_has_path : (g : List Body) (v : ℕ) (m : ℕ → Bool) → EdgesStayWithin g → IsClosed g v m
    → (rest : List ℕ) (b : ℕ) → b < length g → IsLivePath g v b rest → m b ≡ true
unfolding needs
closed_has_path g v m within closed [] b below h = closed b below (or_left _ _ (test_from_exposed _ v h))
closed_has_path g v m within closed (c ∷ rest) b below h =
    let at_c = closed_has_path g v m within closed rest c (within b c h.1.0) h.1.1 in
    closed b below (or_right _ _ (and_from _ _ (not_from_false _ h.0) (any_from_member m _ c h.1.0 at_c)))

-- if each block that needs v is in m, each block at which v is live is in m
pub closed_has_live : (g : List Body) (v : ℕ) (m : ℕ → Bool) → EdgesStayWithin g → IsClosed g v m
    → (b : ℕ) → b < length g → IsLive g v b → m b ≡ true
closed_has_live g v m within closed b below live = closed_has_path g v m within closed live.0 b below live.1

-- m is closed if it has no block of the graph and no block exposes v outside of m
pub closed_if_none : (g : List Body) (v : ℕ) (m : ℕ → Bool) → EdgesStayWithin g → ((b : ℕ) → b < length g → m b ≡ false)
    → ((b : ℕ) → b < length g → exposes (block g b).0 v ≡ true → m b ≡ true) → IsClosed g v m
unfolding needs
closed_if_none g v m within none exposed b below h = ⊎_elim
    (λ here. exposed b below here)
    (λ passed.
    let both = and_parts (not (defines (block g b).0 v)) (list_any (λ s. m s.0) (block g b).1) passed in
    let next = any_member m _ both.1 in
    absurd (both_ways _ (none next.0 (within b next.0 next.1.0)) next.1.1))
    (or_cases (exposes (block g b).0 v) _ h)

-- the flow equation
pub flow : (g : List Body) (v b : ℕ) → (IsLive g v b ↔ FlowsInto g v b)
flow g v b = (
  λ live. first live.0 live.1,
  λ flows. ⊎_elim
      (λ exposed. ([], exposed))
      (λ passed. (passed.1.0 ∷ passed.1.1.1.0, (passed.0, (passed.1.1.0, passed.1.1.1.1))))
      flows,
)
  where
    first : (rest : List ℕ) → IsLivePath g v b rest → FlowsInto g v b
    first [] exposed = inl exposed
    first (c ∷ rest) path = inr (path.0, (c, (path.1.0, (rest, path.1.1))))
