-- The run of a closure, from what std says of the calls.
use Rattle.std.proofs.Common.{◌≡◌, ◌-◌, ℕ, arith, zero, suc, Bool, true, false, List, [], ◌∷◌, ◌++◌, length}
use Rattle.std.proofs.Common.{length-append, length-take, take, map, replicate, refl, ap, subst, ◌∙◌, filter, Result, Ok, OnOk}
use Rattle.std.specs.List.{items_where_true, FoldsTo, AppendsResults}
use Rattle.std.specs.List.Retain.{ReturnsInTurn, IsFiltered, RetainsInTurn}
use Rattle.wic_vec.specs.ClosureRun.{ClosureRun, Retains, RetainsMut, AppendsAnswers, answers_and_leaves, left_where_true}

-- what is said of an Ok, of a result that is one
pub given_ok : {V E P : Type 0} → (r : Result V E) (v : V) → r ≡ Ok v → OnOk r P → P
given_ok {P = P} r v is said = subst (λ r. OnOk r P) is said

module _ {F X : Type 0} where
  -- a test that gave an answer at each element was run on all of them
  pub run_of_test : (call : F → X → Bool → F → Type 0) (f last : F) (answers : List Bool) (xs : List X) → length answers ≡ length xs
      → ReturnsInTurn call f answers xs last → ClosureRun call f xs answers last
  run_of_test call f last [] [] long said = said
  run_of_test call f last [] (x ∷ xs) long said = absurd (omega arith)
  run_of_test call f last (b ∷ answers) [] long said = absurd (omega arith)
  run_of_test call f last (b ∷ answers) (x ∷ xs) long said =
      (said.0, said.1, run_of_test call said.0 last answers xs (omega arith) said.2)

  -- keeping what passes is a run of the test over the elements, and the list of those for which it returned true
  pub retains : (call : F → X → Bool → F → Type 0) (f : F) (xs ys : List X) → IsFiltered call f xs ys → Retains call f xs ys
  retains call f xs ys said = (said.0, said.1, run_of_test call f said.1 said.0 xs said.2 said.3, said.4)

  -- the same for a test that may write to what it is asked about
  pub retains_mut : (call : F → X → Bool → F → X → Type 0) (f : F) (xs ys : List X) → RetainsInTurn call f xs ys
      → RetainsMut call f xs ys
  retains_mut call f [] ys said = ([], f, refl, said)
  retains_mut call f (x ∷ xs) ys (true, next, y, called, zs, later, is) =
      let rest = retains_mut call next xs zs later in
      ((true, y) ∷ rest.0, rest.1, (next, called, rest.2), is ∙ ap (λ l. y ∷ l) rest.3)
  retains_mut call f (x ∷ xs) ys (false, next, y, called, zs, later, is) =
      let rest = retains_mut call next xs zs later in
      ((false, y) ∷ rest.0, rest.1, (next, called, rest.2), is ∙ rest.3)

  -- answers that were got one after another are those of a run
  pub run_of_answers : (call : F → X → F → Type 0) (f last : F) (answers : List X) → FoldsTo call f answers last
      → ClosureRun (λ f _ x next. call f x next) f (replicate (length answers) (tt {0})) answers last
  run_of_answers call f last [] said = said
  run_of_answers call f last (x ∷ answers) said =
      (said.0, said.1, run_of_answers call said.0 last answers said.2)

  -- a list that was cut to n elements, or filled up to n with answers
  pub appends_answers : (call : F → X → F → Type 0) (f : F) (n : ℕ) (was old new : List X) → was ≡ old
      → AppendsResults call (take n was) new f → length new ≡ n → AppendsAnswers call f (n - length old) (take n old) new
  appends_answers call f n was old new same said long =
      let new_is = said.2 ∙ ap (λ l. take n l ++ said.0) same in
      let as_many : length said.0 ≡ n - length old =
      omega (arith, long, ap length new_is, length-append (take n old) said.0, length-take n old) in (
        said.0,
        said.1,
        subst (λ count. ClosureRun (λ f _ x next. call f x next) f (replicate count (tt {0})) said.0 said.1) as_many
            (run_of_answers call f said.1 said.0 said.3),
        new_is,
      )

-- a test of the element alone, which stays as it is, keeps what `filter` does
pub filter_from_retains : {F X : Type 0} (call : F → X → Bool → F → Type 0) (test : X → Bool) (f : F)
    → ((x : X) (b : Bool) (next : F) → call f x b next → (b ≡ test x) × (next ≡ f)) → (xs ys : List X)
    → Retains call f xs ys → ys ≡ filter test xs
filter_from_retains {F} {X} call test f told xs ys kept = kept.3 ∙ those kept.0 kept.1 xs kept.2 where
  those : (bs : List Bool) (last : F) (xs : List X) → ClosureRun call f xs bs last → items_where_true bs xs ≡ filter test xs
  those [] last [] said = refl
  those [] last (x ∷ xs) said = absurd said
  those (b ∷ bs) last [] said = absurd said
  those (true ∷ bs) last (x ∷ xs) said =
      let here = told x true said.0 said.1 in
      let later = those bs last xs (subst (λ g. ClosureRun call g xs bs last) here.1 said.2) in
      rw (← here.0) (ap (λ l. x ∷ l) later)
  those (false ∷ bs) last (x ∷ xs) said =
      let here = told x false said.0 said.1 in
      let later = those bs last xs (subst (λ g. ClosureRun call g xs bs last) here.1 said.2) in
      rw (← here.0) later

-- a test that always returns true keeps all
pub all_from_retains : {F X : Type 0} (call : F → X → Bool → F → Type 0)
    → ((g : F) (x : X) (b : Bool) (next : F) → call g x b next → b ≡ true) → (f : F) (xs ys : List X)
    → Retains call f xs ys → ys ≡ xs
all_from_retains {F} {X} call told f xs ys kept = kept.3 ∙ those kept.0 f kept.1 xs kept.2 where
  those : (bs : List Bool) (f last : F) (xs : List X) → ClosureRun call f xs bs last → items_where_true bs xs ≡ xs
  those [] f last [] said = refl
  those [] f last (x ∷ xs) said = absurd said
  those (b ∷ bs) f last [] said = absurd said
  those (true ∷ bs) f last (x ∷ xs) said = ap (λ l. x ∷ l) (those bs said.0 last xs said.2)
  those (false ∷ bs) f last (x ∷ xs) said = let no = told f x false said.0 said.1 in cc

-- a test that always returns false keeps none
pub none_from_retains : {F X : Type 0} (call : F → X → Bool → F → Type 0)
    → ((g : F) (x : X) (b : Bool) (next : F) → call g x b next → b ≡ false) → (f : F) (xs ys : List X)
    → Retains call f xs ys → ys ≡ []
none_from_retains {F} {X} call told f xs ys kept = kept.3 ∙ those kept.0 f kept.1 xs kept.2 where
  those : (bs : List Bool) (f last : F) (xs : List X) → ClosureRun call f xs bs last → items_where_true bs xs ≡ []
  those [] f last [] said = refl
  those [] f last (x ∷ xs) said = absurd said
  those (b ∷ bs) f last [] said = absurd said
  those (true ∷ bs) f last (x ∷ xs) said = let no = told f x true said.0 said.1 in cc
  those (false ∷ bs) f last (x ∷ xs) said = those bs said.0 last xs said.2

-- a closure that writes each element by its value alone, keeps it, and stays as it is, leaves what `map` gives
pub written_from_retains : {F X : Type 0} (call : F → X → Bool → F → X → Type 0) (write : X → X) (f : F)
    → ((x : X) (b : Bool) (next : F) (y : X) → call f x b next y → (b ≡ true) × (next ≡ f) × (y ≡ write x)) → (xs ys : List X)
    → RetainsMut call f xs ys → ys ≡ map write xs
written_from_retains {F} {X} call write f told xs ys kept = kept.3 ∙ those kept.0 kept.1 xs kept.2 where
  those : (calls : List (Bool × X)) (last : F) (xs : List X) → ClosureRun (answers_and_leaves call) f xs calls last
      → left_where_true calls ≡ map write xs
  those [] last [] said = refl
  those [] last (x ∷ xs) said = absurd said
  those (made ∷ calls) last [] said = absurd said
  those ((true, y) ∷ calls) last (x ∷ xs) said =
      let here = told x true said.0 y said.1 in
      let later = those calls last xs (subst (λ g. ClosureRun (answers_and_leaves call) g xs calls last) here.1 said.2) in
      rw (here.2, later)
  those ((false, y) ∷ calls) last (x ∷ xs) said = let no = (told x false said.0 y said.1).0 in cc

-- a closure that always returns one value, and stays as it is, fills up with that value
pub filled_from_answers : {F X : Type 0} (call : F → X → F → Type 0) (value : X) (f : F)
    → ((x : X) (next : F) → call f x next → (x ≡ value) × (next ≡ f)) → (count : ℕ) (old new : List X)
    → AppendsAnswers call f count old new → new ≡ old ++ replicate count value
filled_from_answers {F} {X} call value f told count old new said =
    said.3 ∙ ap (λ l. old ++ l) (those count said.0 said.1 said.2) where
      those : (count : ℕ) (answers : List X) (last : F)
          → ClosureRun (λ f _ x next. call f x next) f (replicate count (tt {0})) answers last → answers ≡ replicate count value
      those zero [] last said = refl
      those zero (x ∷ answers) last said = absurd said
      those (suc count) [] last said = absurd said
      those (suc count) (x ∷ answers) last said =
          let here = told x said.0 said.1 in
          let later = those count answers last
          (subst (λ g. ClosureRun (λ f _ x next. call f x next) g (replicate count (tt {0})) answers last) here.1 said.2) in
          rw (here.0, later)
