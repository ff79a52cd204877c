-- What the first ops of a block define and expose, one op more.
use Rattle.std.proofs.Common.{⊎_elim, ◌≡◌, ℕ, ◌+◌, ◌<◌, true, false, not, ◌&&◌, ◌||◌, List, [], ◌∷◌, ◌++◌, get_or, length, take}
use Rattle.std.proofs.Common.{refl, ap, ◌∙◌, arith}
use Rattle.std.specs.Ordering.{nat_cmp}
use Rattle.std.specs.FinSet.{FinSet, contains, insert}
use Rattle.std.proofs.lemmas.Bool.{cases_eq}
use Rattle.std.proofs.lemmas.Bool.Decides.{nat_tests}
use Rattle.std.proofs.lemmas.List.{take_more}
use Rattle.liveness.proofs.SetsFacts.{contains_insert}
use Rattle.liveness.specs.Graph.{defines}
use Rattle.liveness.specs.Passes.{exposes}
use Rattle.liveness.specs.declared.graph.Op.{Op}
use Rattle.liveness.specs.declared.graph.Op.TheVariants.{Use, Def}
use Rattle.liveness.specs.declared.graph.Var.{Var}

-- one op more at the end
defines_pushed : (ops : List Op) (o : Op) (v : ℕ) → defines (ops ++ o ∷ []) v ≡ (defines ops v || defines (o ∷ []) v)
defines_pushed [] o v = refl
defines_pushed (Use w ∷ ops) o v = defines_pushed ops o v
defines_pushed (Def w ∷ ops) o v = let rest = defines_pushed ops o v in grind (arith, nat_tests)

-- the exposed uses with one op more at the end
exposes_pushed : (ops : List Op) (o : Op) (v : ℕ)
    → exposes (ops ++ o ∷ []) v ≡ (exposes ops v || (not (defines ops v) && exposes (o ∷ []) v))
exposes_pushed [] o v = refl
exposes_pushed (Use w ∷ ops) o v = let rest = exposes_pushed ops o v in grind (arith, nat_tests)
exposes_pushed (Def w ∷ ops) o v = let rest = exposes_pushed ops o v in grind (arith, nat_tests)

module _ (ops : List Op) (i : ℕ) (o d : Op) (below : i < length ops) (is : get_or ops i d ≡ o) where
  -- the first i + 1 ops
  taken : take (i + 1) ops ≡ take i ops ++ o ∷ []
  taken = take_more ops i d below ∙ ap (λ x. take i ops ++ x ∷ []) is

  -- the first i + 1 ops define v exactly if the first i do or o does
  pub defines_taken : (v : ℕ) → defines (take (i + 1) ops) v ≡ (defines (take i ops) v || defines (o ∷ []) v)
  defines_taken v = ap (λ xs. defines xs v) taken ∙ defines_pushed (take i ops) o v

  -- the first i + 1 ops expose v exactly if the first i do, or o does and the first i do not define v
  pub exposes_taken : (v : ℕ) → exposes
      (take (i + 1) ops) v ≡ (exposes (take i ops) v || (not (defines (take i ops) v) && exposes (o ∷ []) v))
  exposes_taken v = ap (λ xs. exposes xs v) taken ∙ exposes_pushed (take i ops) o v

module _ (ops : List Op) (i : ℕ) (w : Var) (d : Op) (below : i < length ops) where
  -- a use defines nothing
  pub use_defines : (s : FinSet nat_cmp) → get_or ops i d ≡ Use w → ((v : ℕ) → contains s v ≡ defines (take i ops) v)
      → (v : ℕ) → contains s v ≡ defines (take (i + 1) ops) v
  use_defines s is so v = let next = defines_taken ops i (Use w) d below is v in let was = so v in grind (arith, nat_tests)

  -- and is exposed if its variable isn't defined before
  pub use_exposes : (s : FinSet nat_cmp) → get_or ops i d ≡ Use w → defines (take i ops) w.0 ≡ false
      → ((v : ℕ) → contains s v ≡ exposes (take i ops) v) → (v : ℕ) → contains (insert s w.0) v ≡ exposes (take (i + 1) ops) v
  use_exposes s is free so v =
      let next = exposes_taken ops i (Use w) d below is v in
      let was = so v in
      let now = contains_insert s w.0 v in
      ⊎_elim
      (λ same. let e : defines (take i ops) v ≡ false = ap (defines (take i ops)) same ∙ free in grind (arith, nat_tests))
      (λ apart. grind (arith, nat_tests))
      (cases_eq v w.0)

  -- a use whose variable is defined before exposes nothing more
  pub use_hidden : (s : FinSet nat_cmp) → get_or ops i d ≡ Use w → defines (take i ops) w.0 ≡ true
      → ((v : ℕ) → contains s v ≡ exposes (take i ops) v) → (v : ℕ) → contains s v ≡ exposes (take (i + 1) ops) v
  use_hidden s is defined so v =
      let next = exposes_taken ops i (Use w) d below is v in
      let was = so v in
      ⊎_elim
      (λ same. let e : defines (take i ops) v ≡ true = ap (defines (take i ops)) same ∙ defined in grind (arith, nat_tests))
      (λ apart. grind (arith, nat_tests))
      (cases_eq v w.0)

  -- a definition defines its variable
  pub def_defines : (s : FinSet nat_cmp) → get_or ops i d ≡ Def w → ((v : ℕ) → contains s v ≡ defines (take i ops) v)
      → (v : ℕ) → contains (insert s w.0) v ≡ defines (take (i + 1) ops) v
  def_defines s is so v =
      let next = defines_taken ops i (Def w) d below is v in
      let was = so v in
      let now = contains_insert s w.0 v in
      ⊎_elim (λ same. grind (arith, nat_tests)) (λ apart. grind (arith, nat_tests)) (cases_eq v w.0)

  -- and exposes nothing
  pub def_exposes : (s : FinSet nat_cmp) → get_or ops i d ≡ Def w → ((v : ℕ) → contains s v ≡ exposes (take i ops) v)
      → (v : ℕ) → contains s v ≡ exposes (take (i + 1) ops) v
  def_exposes s is so v = let next = exposes_taken ops i (Def w) d below is v in let was = so v in grind (arith, nat_tests)
