-- Runs of a generational slab, and the law of stale handles.
use Rattle.std.specs.Prelude.{◌≡◌, ◌≢◌, ◌⊎◌, ◌≤◌, List, [], ◌∷◌, None, IsSome}
use Rattle.std.specs.FinMap.{empty}
use Rattle.wic_slab.specs.Order.{from_zero}
use Rattle.gen_slab.specs.Handle.{Handle}
use Rattle.gen_slab.specs.GenSlab.{GenState, last_count, value_of, with_next, without, rewritten}

-- what is asked of a slab
pub data Step (T : Type 0) : Type 0 where
  take_in : T → Step T
  take_out : Handle → Step T
  write : Handle → T → Step T

module _ {T : Type 0} where
  -- nothing is held, and ids start at 0; the count is any
  pub record IsFresh (s : GenState T) : Type 0 where
    pub none : s.live ≡ empty
    pub order : s.order ≡ from_zero
    pub at_most : s.count ≤ last_count

  -- What a step may lead to. Taking in may be refused, and is if the count is the last. A handle that isn't live changes
  -- nothing.
  abbrev pub Leads : GenState T → Step T → GenState T → Type 0
  Leads s (take_in value) next = (next ≡ s) ⊎ ((s.count ≢ last_count) × (next ≡ with_next s value))
  Leads s (take_out handle) next =
      ((value_of s handle ≡ None) × (next ≡ s)) ⊎ (IsSome (value_of s handle) × (next ≡ without s handle))
  Leads s (write handle value) next =
      ((value_of s handle ≡ None) × (next ≡ s)) ⊎ (IsSome (value_of s handle) × (next ≡ rewritten s handle value))

  -- the steps lead from the one state to the other
  abbrev pub LeadAll : GenState T → List (Step T) → GenState T → Type 0
  LeadAll s [] last = last ≡ s
  LeadAll s (step ∷ steps) last = (next : GenState T) × Leads s step next × LeadAll next steps last

-- over every run from a fresh state: a handle whose value was taken out is live in no later state
abbrev pub StaleStaysStale : Type 0 → Type 0
StaleStaysStale T =
    (first before last : GenState T) (steps more : List (Step T)) (handle : Handle)
    → IsFresh first → LeadAll first steps before
    → IsSome (value_of before handle)
    → LeadAll (without before handle) more last
    → value_of last handle ≡ None
