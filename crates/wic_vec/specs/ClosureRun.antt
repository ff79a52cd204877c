-- The run of a closure on a list of arguments.
use Rattle.std.specs.Prelude.{◌≡◌, ℕ, Bool, List, [], ◌∷◌, ◌++◌, map, replicate}
use Rattle.std.specs.List.{items_where_true}

-- called once at each argument, in order, each call in the state that the one before left, f gave these answers, and is last afterwards
abbrev pub ClosureRun : {F A R : Type 0} → (F → A → R → F → Type 0) → F → List A → List R → F → Type 0
ClosureRun call f [] [] last = f ≡ last
ClosureRun call f [] (r ∷ rs) last = ⊥
ClosureRun call f (x ∷ xs) [] last = ⊥
ClosureRun {F} call f (x ∷ xs) (r ∷ rs) last = (next : F) × call f x r next × ClosureRun call next xs rs last

-- a call at an argument that is lent for writing: its answer, and beside it what the call left in the argument
abbrev pub answers_and_leaves : {F A R : Type 0} → (F → A → R → F → A → Type 0) → F → A → R × A → F → Type 0
answers_and_leaves call f x r next = call f x r.0 next r.1

-- f was called once at each element, in order, and those stay at which it returned `true`
abbrev pub Retains : {F T : Type 0} → (F → T → Bool → F → Type 0) → F → List T → List T → Type 0
Retains {F} call f old new =
    (answers : List Bool) × (last : F) × ClosureRun call f old answers last × (new ≡ items_where_true answers old)

-- the values that were left by the calls that returned `true`
abbrev pub left_where_true : {T : Type 0} → List (Bool × T) → List T
left_where_true calls = items_where_true (map (λ c. c.0) calls) (map (λ c. c.1) calls)

-- the same as `Retains` when each element is lent for writing: those that stay are as f left them
abbrev pub RetainsMut : {F T : Type 0} → (F → T → Bool → F → T → Type 0) → F → List T → List T → Type 0
RetainsMut {F} {T} call f old new =
    (calls : List (Bool × T)) × (last : F) × ClosureRun (answers_and_leaves call) f old calls last
    × (new ≡ left_where_true calls)

-- new is old, and behind it what so many calls of f returned
abbrev pub AppendsAnswers : {F T : Type 0} → (F → T → F → Type 0) → F → ℕ → List T → List T → Type 0
AppendsAnswers {F} {T} call f count old new =
    (answers : List T) × (last : F) × ClosureRun (λ f _ x next. call f x next) f (replicate count (tt {0})) answers last
    × (new ≡ old ++ answers)
