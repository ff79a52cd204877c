-- What a visit of one block and a whole pass do for one variable.
use Rattle.std.proofs.Common.{⊎_elim, ◌≡◌, ℕ, zero, suc, ◌+◌, ◌*◌, ◌<◌, ◌≤◌, Bool, true, false, cond, ◌||◌, List}
use Rattle.std.proofs.Common.{[], min, one-mul, ◌-◌, length, refl, sym, ap, subst, ◌∙◌, arith, inl, inr}
use Rattle.std.proofs.Math.Nat.{mul-le-mul_right}
use Rattle.std.proofs.lemmas.Bool.{cases_eq, cases_lt, cases_Bool, or_cases, or_right, or_parts, both_ways}
use Rattle.entity_set.specs.Entities.{Entities}
use Rattle.liveness.specs.Graph.{Body, EdgesStayWithin}
use Rattle.liveness.specs.Live.{IsLive, AreLive, has}
use Rattle.liveness.specs.Passes.{needs, IsClosedAt, IsSound, count_of, HasGained, HasGainedFrom, IsVisit, IsVisitOf, IsChangeAt}
use Rattle.liveness.specs.Passes.{IsPassFrom}
use Rattle.liveness.specs.Passes.{IsAlong, IsSurveyed}
use Rattle.liveness.proofs.LiveFacts.{live_from_needs, closed_has_live, closed_if_none, exposed_from_test}
use Rattle.liveness.proofs.SetsFacts.{has_past}

-- ---- counts

-- a block that is in counts one
one : {b : Bool} → b ≡ true → cond {A = ℕ} b 1 0 ≡ 1
one e = rw e refl

-- a block that is out counts nothing
none : {b : Bool} → b ≡ false → cond {A = ℕ} b 1 0 ≡ 0
none e = rw e refl

-- no more blocks than there are
pub count_within : (m : ℕ → Bool) (n : ℕ) → count_of m n ≤ n
count_within m zero = omega arith
count_within m (suc n) = let rest = count_within m n in ⊎_elim
    (λ yes. rw yes (omega arith))
    (λ no. rw no (omega arith))
    (cases_Bool (m n))

-- no fewer blocks are in k if each block of m is
count_grows : (m k : ℕ → Bool) (n : ℕ) → ((c : ℕ) → m c ≡ true → k c ≡ true) → count_of m n ≤ count_of k n
count_grows m k zero more = omega arith
count_grows m k (suc n) more = let rest = count_grows m k n more in ⊎_elim
    (λ yes. let a = one yes in let b = one (more n yes) in omega arith)
    (λ no. let a = none no in omega arith)
    (cases_Bool (m n))

-- a block more
count_rises : (m k : ℕ → Bool) (n b : ℕ) → ((c : ℕ) → m c ≡ true → k c ≡ true) → b < n → m b ≡ false → k b ≡ true
    → count_of m n + 1 ≤ count_of k n
count_rises m k zero b more below out in_k = absurd (omega arith)
count_rises m k (suc n) b more below out in_k = ⊎_elim
    (λ same.
    let rest = count_grows m k n more in
    let o : m n ≡ false = ap m (sym same) ∙ out in
    let i : k n ≡ true = ap k (sym same) ∙ in_k in
    let a = none o in
    let c = one i in
    omega arith)
    (λ apart.
    let rest = count_rises m k n b more (omega arith) out in_k in
    ⊎_elim
    (λ yes. let a = one yes in let b = one (more n yes) in omega arith)
    (λ no. let a = none no in omega arith)
    (cases_Bool (m n)))
    (cases_eq b n)

-- ---- one visit

module _ {g : List Body} {v b : ℕ} {m k : ℕ → Bool} (visit : IsVisit g v b m k) where
  -- a visit takes no block out
  visit_grows : (c : ℕ) → m c ≡ true → k c ≡ true
  visit_grows c h = ⊎_elim
      (λ same. let e : m b ≡ true = ap m (sym same) ∙ h in ap k same ∙ visit.here ∙ rw e refl)
      (λ apart. visit.others c apart ∙ h)
      (cases_eq c b)

  -- a visit keeps that only live blocks are in
  pub visit_sound : IsSound g v m → IsSound g v k
  visit_sound sound c h = ⊎_elim
      (λ same. subst (λ (x : ℕ). IsLive g v x) (sym same) (⊎_elim
      (λ old. sound b old)
      (λ new. live_from_needs g v m b sound new)
      (or_cases (m b) (needs g v m b) (sym visit.here ∙ (ap k (sym same) ∙ h)))))
      (λ apart. sound c (sym (visit.others c apart) ∙ h))
      (cases_eq c b)

  -- if block b stays, all do
  same_all : k b ≡ m b → m ≡ k
  same_all e = λ i c. ⊎_elim
      (λ same. ap m same ∙ (sym e ∙ ap k (sym same)))
      (λ apart. sym (visit.others c apart))
      (cases_eq c b) i

  -- block b is closed if it stays
  closed_here : k b ≡ m b → IsClosedAt g v m b
  closed_here e need = sym e ∙ (visit.here ∙ or_right (m b) _ need)

  -- so are the blocks from b on, if those behind it are
  closed_from : k b ≡ m b → ((c : ℕ) → b + 1 ≤ c → c < length g → IsClosedAt g v m c)
      → (c : ℕ) → b ≤ c → c < length g → IsClosedAt g v m c
  closed_from e closed c from below = ⊎_elim
      (λ same. subst (λ (x : ℕ). IsClosedAt g v m x) (sym same) (closed_here e))
      (λ apart. closed c (omega arith) below)
      (cases_eq c b)

  -- a visit that does not put v in
  pub visit_closes : k b ≡ m b → ((c : ℕ) → b + 1 ≤ c → c < length g → IsClosedAt g v m c)
      → (c : ℕ) → b ≤ c → c < length g → IsClosedAt g v k c
  visit_closes e closed =
      subst (λ (x : ℕ → Bool). (c : ℕ) → b ≤ c → c < length g → IsClosedAt g v x c) (same_all e) (closed_from e closed)

  -- a visit that leaves block b takes the pass on
  stays : (p : ℕ) → k b ≡ m b → HasGainedFrom g p v m (b + 1) → HasGainedFrom g p v k b
  stays p e gained =
      subst (λ (x : ℕ → Bool). HasGainedFrom g p v x b) (same_all e) (⊎_elim
      (λ more. inl more)
      (λ kept. inr (kept.0, closed_from e kept.1))
      gained)

  -- a visit that puts v in
  pub visit_adds : (p : ℕ) → b < length g → m b ≡ false → k b ≡ true → HasGainedFrom g p v m (b + 1) → p + 1 ≤ count_of k (length g)
  visit_adds p below out in_k gained =
      let rise = count_rises m k (length g) b visit_grows below out in_k in
      let needed : needs g v m b ≡ true = ap (λ x. x || needs g v m b) (sym out) ∙ (sym visit.here ∙ in_k) in
      ⊎_elim
      (λ more. omega arith)
      (λ kept. ⊎_elim
      (λ before. omega arith)
      (λ closed. absurd (both_ways _ out (closed b below needed)))
      kept.0)
      gained

  -- each visit takes it on by one block
  pub visit_gains : (p : ℕ) → b < length g → HasGainedFrom g p v m (b + 1) → HasGainedFrom g p v k b
  visit_gains p below gained = ⊎_elim
      (λ old. stays p (visit_grows b old ∙ sym old) gained)
      (λ out. ⊎_elim
      (λ in_k. inl (visit_adds p below out in_k gained))
      (λ not_in. stays p (not_in ∙ sym out) gained)
      (cases_Bool (k b)))
      (cases_Bool (m b))

-- ---- a pass

-- a visit takes it on by one block
pub pass_goes_on : (g : List Body) (changed r later : Bool) (first old new : List Entities) (b : ℕ) → b < length g
    → later ≡ (changed || r)
    → IsPassFrom g changed first old (b + 1) → IsVisitOf g r b old new → IsPassFrom g later first new b
pass_goes_on g changed r later first old new b below is pass visit = record {
  sound = λ sound v. visit_sound (visit.each v) (pass.sound sound v);
  gains = λ p gained v. visit_gains (visit.each v) p below (pass.gains p gained v);
  more = λ p gained h. ⊎_elim
      (λ before. pass.more p gained before)
      (λ here.
      let added = subst (λ (x : Bool). IsChangeAt x b old new) here visit.change in
      let few = count_within (has new added.0) (length g) in
      let many = visit_adds (visit.each added.0) p below added.1.0 added.1.1 (pass.gains p gained added.0) in
      omega arith)
      (or_cases changed r (sym is ∙ h));
  closed = λ unchanged v.
      let both = or_parts changed r (sym is ∙ unchanged) in
      let same = subst (λ (x : Bool). IsChangeAt x b old new) both.1 visit.change in
      visit_closes (visit.each v) (same v) (pass.closed both.0 v);
}

-- after a visit of block k the pass has come down to k
pub goes_on : (g : List Body) (changed r : Bool) (first old new : List Entities) (b k : ℕ) → k + 1 ≡ b → b ≤ length g
    → IsPassFrom g changed first old b → IsVisitOf g r k old new → IsPassFrom g (changed || r) first new k
goes_on g changed r first old new b k down within pass visit =
    pass_goes_on g changed r (changed || r) first old new k (omega arith) refl
    (subst (IsPassFrom g changed first old) (sym down) pass) visit

-- a pass ends
pub pass_ends : (g : List Body) (changed : Bool) (old new : List Entities) (p : ℕ) → IsPassFrom g changed old new 0
    → ((v : ℕ) → HasGained g p v (has old v)) → (v : ℕ) → HasGained g (p + 1) v (has new v)
pass_ends g changed old new p pass gained v =
    ⊎_elim (λ more. inl more) (λ kept. inr (λ b below. kept.1 b (omega arith) below)) (pass.gains p gained v)

-- before the first visit of a pass
pub pass_starts : (g : List Body) (sets : List Entities) → IsPassFrom g false sets sets (length g)
pass_starts g sets = record {
  sound = λ sound. sound;
  gains = λ p gained v. inr (gained v, λ b from below. absurd (omega arith));
  more = λ p gained h. absurd (cc);
  closed = λ h v b from below. absurd (omega arith);
}

-- ---- all passes

-- if no block counts, none is in
count_none : (m : ℕ → Bool) (n : ℕ) → count_of m n ≡ 0 → (b : ℕ) → b < n → m b ≡ false
count_none m zero empty b below = absurd (omega arith)
count_none m (suc n) empty b below = ⊎_elim
    (λ yes. absurd (let one = one yes in omega arith))
    (λ no. ⊎_elim
    (λ same. ap m same ∙ no)
    (λ apart. count_none m n (let zero = none no in omega arith) b (omega arith))
    (cases_eq b n))
    (cases_Bool (m n))

-- after the survey, which is the first pass
pub along_starts : (g : List Body) (start steps : ℕ) (defined sets : List Entities) → EdgesStayWithin g
    → IsSurveyed g (length g) defined sets → steps ≡ start + length g → IsAlong g start steps sets
along_starts g start steps defined sets within surveyed looks = record {
  passes = min 1 (length g);
  few = omega arith;
  looks = first (length g) looks;
  sound = λ v b h. ⊎_elim
      (λ below. ([], exposed_from_test _ v (sym (surveyed.exposes_just b below v) ∙ h)))
      (λ past. absurd (both_ways _ (has_past sets v b (let count = surveyed.count in omega arith)) h))
      (cases_lt b (length g));
  gained = λ v. ⊎_elim
      (λ some. inl (omega arith))
      (λ none. inr (closed_if_none g v (has sets v) within (count_none (has sets v) (length g) (omega arith))
      (λ b below exposed. surveyed.exposes_just b below v ∙ exposed)))
      (cases_lt 0 (count_of (has sets v) (length g)));
}
  where
    first : (n : ℕ) → steps ≡ start + n → steps ≡ start + min 1 n * n
    first zero is = is
    first (suc n) is =
        let e : min 1 (suc n) ≡ 1 = omega arith in
        let once : steps ≡ start + 1 * suc n = is ∙ ap (λ k. start + k) (sym (one-mul (suc n))) in
        once ∙ ap (λ k. start + k * suc n) (sym e)

-- one pass more
pub along_more : (g : List Body) (start steps later : ℕ) (old new : List Entities) → IsAlong g start steps old
    → IsPassFrom g true old new 0 → later ≡ steps + length g → IsAlong g start later new
along_more g start steps later old new along pass looks = record {
  passes = along.passes + 1;
  few = pass.more along.passes along.gained refl;
  looks = let e = along.looks in grind arith;
  sound = pass.sound along.sound;
  gained = pass_ends g true old new along.passes pass along.gained;
}

-- a pass that changes nothing is the last
pub along_ends : (g : List Body) (start steps : ℕ) (old new : List Entities) → EdgesStayWithin g → length new ≡ length g
    → IsAlong g start steps old → IsPassFrom g false old new 0 → AreLive g new
along_ends g start steps old new within count along pass = record {
  count = count;
  exact = λ b below v. (
    pass.sound along.sound v b,
    closed_has_live g v (has new v) within (λ c inside. pass.closed refl v c (omega arith) inside) b below,
  );
}

-- what is left of the bound falls
pub along_falls : (g : List Body) (start steps later : ℕ) (old new : List Entities) → IsAlong g start steps old
    → IsPassFrom g true old new 0 → later ≡ steps + length g
    → start + length g * (length g + 1) - later < start + length g * (length g + 1) - steps
along_falls g start steps later old new along pass looks =
    let n = length g in
    let few : along.passes + 1 ≤ n = pass.more along.passes along.gained refl in
    let so_far = along.looks in
    let next : (along.passes + 1) * n ≤ n * n = mul-le-mul_right n few in
    let apart : (along.passes + 1) * n ≡ along.passes * n + n = add-mul along.passes n in
    let whole : n * (n + 1) ≡ n * n + n = mul-add n in
    omega arith
  where
    add-mul : (p n : ℕ) → (p + 1) * n ≡ p * n + n
    add-mul p n = omega arith

    mul-add : (n : ℕ) → n * (n + 1) ≡ n * n + n
    mul-add n = omega arith
