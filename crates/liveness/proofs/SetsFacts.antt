-- The sets of all blocks as one list, and what a block adds to its set.
use Rattle.std.proofs.Common.{⊎_elim, ◌≡◌, ℕ, zero, suc, ◌+◌, ◌<◌, ◌≤◌, Bool, true, false, not, ◌&&◌, ◌||◌, List, [], ◌∷◌, ◌++◌}
use Rattle.std.proofs.Common.{get_or}
use Rattle.std.proofs.Common.{length, set, take, slice_get, Some, refl, sym, ap, ◌∙◌, ◌↔◌, IsTrue, arith, length-append}
use Rattle.std.specs.Prelude.{◌==◌, nat_eq}
use Rattle.std.specs.List.{list_any}
use Rattle.std.specs.Ordering.{nat_cmp}
use Rattle.std.specs.Cmp.{nat_cmp_total, unsigned_tied}
use Rattle.std.specs.FinSet.{FinSet, contains, insert, union, difference, empty}
use Rattle.std.specs.FinSet.{contains-empty, contains-insert, contains-union, contains-difference}
use Rattle.std.proofs.Math.ListN.{length-set}
use Rattle.std.proofs.lemmas.Bool.{cases_eq, eq-eqb, or_left, or_right}
use Rattle.std.proofs.lemmas.Bool.Decides.{nat_tests}
use Rattle.std.proofs.lemmas.List.{take_more, get_or-set_same, get_or-set_other}
use Rattle.entity_set.specs.Entities.{Entities}
use Rattle.wic_base.specs.Sets.{HasMore}
use Rattle.liveness.proofs.GraphFacts.{block_is}
use Rattle.liveness.specs.declared.graph.Block.{Block}
use Rattle.liveness.specs.Graph.{Body, block, defines}
use Rattle.liveness.specs.Live.{has}
use Rattle.liveness.specs.Passes.{exposes, needs, IsVisitOf, IsChangeAt, IsReady, IsSurveyed}

-- membership after v is put in, in the words of a test
pub contains_insert : (s : FinSet nat_cmp) (v q : ℕ) → contains (insert s v) q ≡ ((q == v) || contains s q)
contains_insert s v q = contains-insert nat_cmp_total s v q ∙ ap (λ x. x || contains s q) (unsigned_tied q v)

-- ---- one set a block

-- no set
pub has_past : (sets : List Entities) (v b : ℕ) → length sets ≤ b → has sets v b ≡ false
has_past [] v b past = contains-empty nat_cmp v
has_past (x ∷ sets) v zero past = absurd (omega arith)
has_past (x ∷ sets) v (suc b) past = has_past sets v b (omega arith)

-- what an index gives
pub has_at : (sets : List Entities) (s : Entities) (v b : ℕ) → slice_get sets b ≡ Some s → has sets v b ≡ contains s.members v
has_at [] s v b h = absurd (cc)
has_at (x ∷ sets) s v zero h = let e : x ≡ s = cc in ap (λ t. contains t.members v) e
has_at (x ∷ sets) s v (suc b) h = has_at sets s v b h

-- one set more
has_before : (sets : List Entities) (s : Entities) (v b : ℕ) → b < length sets → has (sets ++ s ∷ []) v b ≡ has sets v b
has_before [] s v b below = absurd (omega arith)
has_before (x ∷ sets) s v zero below = refl
has_before (x ∷ sets) s v (suc b) below = has_before sets s v b (omega arith)

-- the set that was put at the end
has_last : (sets : List Entities) (s : Entities) (v b : ℕ) → length sets ≡ b → has (sets ++ s ∷ []) v b ≡ contains s.members v
has_last [] s v zero last = refl
has_last [] s v (suc b) last = absurd (omega arith)
has_last (x ∷ sets) s v zero last = absurd (omega arith)
has_last (x ∷ sets) s v (suc b) last = has_last sets s v b (omega arith)

-- ---- the survey

-- no block was visited
pub surveyed_none : (g : List Body) → IsSurveyed g 0 [] []
surveyed_none g = record {
  count_defined = refl;
  count = refl;
  defines_just = λ b below v. absurd (omega arith);
  exposes_just = λ b below v. absurd (omega arith);
}

-- what holds of the blocks before and of this one
each_more : (sets : List Entities) (s : Entities) (end : ℕ) (says : ℕ → ℕ → Bool) → length sets ≡ end
    → ((b : ℕ) → b < end → (v : ℕ) → has sets v b ≡ says b v) → ((v : ℕ) → contains s.members v ≡ says end v)
    → (b : ℕ) → b < end + 1 → (v : ℕ) → has (sets ++ s ∷ []) v b ≡ says b v
each_more sets s end says count before here b below v = ⊎_elim
    (λ same. has_last sets s v b (omega arith) ∙ here v ∙ ap (λ c. says c v) (sym same))
    (λ apart. has_before sets s v b (omega arith) ∙ before b (omega arith) v)
    (cases_eq b end)

-- one block more
pub surveyed_more : (g : List Body) (end : ℕ) (body : Body) (defined sets : List Entities) (d e : Entities)
    → IsSurveyed g end defined sets → slice_get g end ≡ Some body
    → ((v : ℕ) → contains d.members v ≡ defines body.0 v) → ((v : ℕ) → contains e.members v ≡ exposes body.0 v)
    → IsSurveyed g (end + 1) (defined ++ d ∷ []) (sets ++ e ∷ [])
surveyed_more g end body defined sets d e before at_end defines_it exposes_it =
    let this = sym (block_is g end body at_end) in
    record {
      count_defined = omega (arith, before.count_defined, length-append defined (d ∷ []));
      count = omega (arith, before.count, length-append sets (e ∷ []));
      defines_just = each_more defined d end (λ b v. defines (block g b).0 v) before.count_defined before.defines_just
          (λ v. defines_it v ∙ ap (λ (x : Body). defines x.0 v) this);
      exposes_just = each_more sets e end (λ b v. exposes (block g b).0 v) before.count before.exposes_just
          (λ v. exposes_it v ∙ ap (λ (x : Body). exposes x.0 v) this);
    }

-- all blocks
pub ready_from_survey : (g : List Body) (defined sets : List Entities) → IsSurveyed g (length g) defined sets → IsReady g defined sets
ready_from_survey g defined sets surveyed = record {
  count_defined = surveyed.count_defined;
  count = surveyed.count;
  defines_just = surveyed.defines_just;
  has_exposed = λ b below v exposed. surveyed.exposes_just b below v ∙ exposed;
}

-- ---- the sets of a block's successors

-- m holds of some element, if one more stands at the end
any_pushed : (m : Block → Bool) (cs : List Block) (c : Block) → list_any m (cs ++ c ∷ []) ≡ (m c || list_any m cs)
any_pushed m [] c = refl
any_pushed m (x ∷ cs) c = let rest = any_pushed m cs c in grind arith

-- m holds of some element of the first i + 1
any_taken : (m : Block → Bool) (cs : List Block) (i : ℕ) (d : Block) → i < length cs
    → list_any m (take (i + 1) cs) ≡ (m (get_or cs i d) || list_any m (take i cs))
any_taken m cs i d below = ap (list_any m) (take_more cs i d below) ∙ any_pushed m (take i cs) (get_or cs i d)

-- an element is among the elements
pub any_at : (cs : List Block) (i : ℕ) (d : Block) → i < length cs → list_any (λ s. nat_eq s.0 (get_or cs i d).0) cs ≡ true
any_at [] i d below = absurd (omega arith)
any_at (x ∷ cs) zero d below = or_left _ _ (eq-eqb x.0 x.0 refl)
any_at (x ∷ cs) (suc i) d below = or_right _ _ (any_at cs i d (omega arith))

-- the set of one successor more
pub after_more : (sets : List Entities) (cs : List Block) (i v : ℕ) (d : Block) (old new : FinSet nat_cmp) (s : Entities) → i < length cs
    → slice_get sets (get_or cs i d).0 ≡ Some s → new ≡ union old s.members → contains old v ≡ list_any (λ c. has sets v c.0) (take i cs)
    → contains new v ≡ list_any (λ c. has sets v c.0) (take (i + 1) cs)
after_more sets cs i v d old new s below at_c all before =
    let now = ap (λ t. contains t v) all ∙ contains-union nat_cmp_total old s.members v in
    let there = has_at sets s v (get_or cs i d).0 at_c in
    let next = any_taken (λ c. has sets v c.0) cs i d below in
    grind (arith, nat_tests)

-- ---- a visit

-- what is passed on and isn't there is what is needed and isn't there
needed_bits : (had exposed passed defined : Bool) → (exposed ≡ true → had ≡ true)
    → (had || (passed && not defined)) ≡ (had || (exposed || (not defined && passed)))
needed_bits true exposed passed defined implied = refl
needed_bits false true passed defined implied = absurd (let no = implied refl in cc)
needed_bits false false true true implied = refl
needed_bits false false true false implied = refl
needed_bits false false false true implied = refl
needed_bits false false false false implied = refl

-- whether the set of block b has a variable more, if its members went from those of s to those of t
changed_at : (r : Bool) (b : ℕ) (old new : List Entities) (s t : Entities)
    → ((v : ℕ) → has old v b ≡ contains s.members v) → ((v : ℕ) → has new v b ≡ contains t.members v)
    → (IsTrue r ↔ HasMore s.members t.members) → ((r ≡ false) ↔ (t.members ≡ s.members)) → IsChangeAt r b old new
changed_at true b old new s t was is more same =
    let found = more.0 refl in (found.0, (was found.0 ∙ found.1.0, is found.0 ∙ found.1.1))
changed_at false b old new s t was is more same = λ v. is v ∙ ap (λ x. contains x v) (same.0 refl) ∙ sym (was v)

module _ (g : List Body) (defined old : List Entities) (b : ℕ) (body : Body) (s d t : Entities) (after passed : FinSet nat_cmp)
    (ready : IsReady g defined old) (below : b < length g) (at_b : slice_get g b ≡ Some body) (was : slice_get old b ≡ Some s)
    (kills : slice_get defined b ≡ Some d) (any : (v : ℕ) → contains after v ≡ list_any (λ c. has old v c.0) body.1)
    (left : passed ≡ difference after d.members) (all : t.members ≡ union s.members passed) where
  -- the set of block b after the visit
  now_at : (v : ℕ) → has (set old b t) v b ≡ contains t.members v
  now_at v = ap (λ (x : Entities). contains x.members v)
      (get_or-set_same old b t (record { members = empty; capacity = 0 }) (omega (arith, ready.count)))

  -- the sets of the other blocks
  others_at : (v c : ℕ) → (c ≡ b → ⊥) → has (set old b t) v c ≡ has old v c
  others_at v c apart =
      ap (λ (x : Entities). contains x.members v) (get_or-set_other old b c t (record { members = empty; capacity = 0 }) apart)

  -- block b has v if it had it or needs it
  here_at : (v : ℕ) → has (set old b t) v b ≡ (has old v b || needs g v (has old v) b)
  unfolding needs
  here_at v =
      let in_old = has_at old s v b was in
      let in_passed : contains passed v ≡ (contains after v && not (contains d.members v)) =
      ap (λ x. contains x v) left ∙ contains-difference nat_cmp_total after d.members v in
      let killed : contains d.members v ≡ defines (block g b).0 v = sym (has_at defined d v b kills) ∙ ready.defines_just b below v in
      let gone : contains after v ≡ list_any (λ c. has old v c.0) (block g b).1 =
      any v ∙ ap (λ (x : Body). list_any (λ c. has old v c.0) x.1) (sym (block_is g b body at_b)) in
      now_at v ∙ ap (λ x. contains x v) all ∙ contains-union nat_cmp_total s.members passed v
      ∙ ap (λ x. x || contains passed v) (sym in_old)
      ∙ ap (λ x. has old v b || x) (in_passed ∙ ap (λ x. x && not (contains d.members v)) gone
      ∙ ap (λ x. list_any (λ c. has old v c.0) (block g b).1 && not x) killed)
      ∙ needed_bits (has old v b) (exposes (block g b).0 v) (list_any (λ c. has old v c.0) (block g b).1) (defines (block g b).0 v)
      (ready.has_exposed b below v)

  -- what the visit says
  pub visited : (r : Bool) → (IsTrue r ↔ HasMore s.members t.members) → ((r ≡ false) ↔ (t.members ≡ s.members))
      → IsVisitOf g r b old (set old b t)
  visited r more same = record {
    each = λ v. record { here = here_at v; others = others_at v };
    change = changed_at r b old (set old b t) s t (λ v. has_at old s v b was) now_at more same;
  }

  -- the sets still have what is exposed
  pub visited_ready : IsReady g defined (set old b t)
  visited_ready = record {
    count_defined = ready.count_defined;
    count = length-set old b t ∙ ready.count;
    defines_just = ready.defines_just;
    has_exposed = λ c inside v exposed. ⊎_elim
        (λ same. ap (has (set old b t) v) same ∙ here_at v
        ∙ or_left _ _ (ap (has old v) (sym same) ∙ ready.has_exposed c inside v exposed))
        (λ apart. others_at v c apart ∙ ready.has_exposed c inside v exposed)
        (cases_eq c b);
  }
