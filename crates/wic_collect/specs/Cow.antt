-- What is borrowed or owned.
use Rattle.std.specs.Prelude.{⊤, ◌≡◌, ℕ, List}
use Rattle.std.specs.Borrow.{Bor}
use Rattle.wic_vec.specs.TryString.{TryString}
use Rattle.wic_vec.specs.TryVec.{TryVec}
use Rattle.wic_collect.specs.declared.cow.TryCowOf.{TryCowOf}
use Rattle.wic_collect.specs.declared.cow.TryCowOf.TheVariants.{Borrowed, Owned}

module _ {R O : Type 0} where
  abbrev pub IsBorrowed : TryCowOf R O → Type 0
  IsBorrowed (Borrowed r) = ⊤
  IsBorrowed (Owned x) = ⊥

  -- x is what c owns, or it is the same as what c borrows
  abbrev pub HasContent : (R → O → Type 0) → TryCowOf R O → O → Type 0
  HasContent same (Borrowed r) x = same r x
  HasContent same (Owned y) x = x ≡ y

  -- both borrow the same, or both own the same
  abbrev pub SameCow : (R → R → Type 0) → (O → O → Type 0) → TryCowOf R O → TryCowOf R O → Type 0
  SameCow same_borrowed same_owned (Borrowed r) (Borrowed s) = same_borrowed r s
  SameCow same_borrowed same_owned (Borrowed r) (Owned y) = ⊥
  SameCow same_borrowed same_owned (Owned x) (Borrowed s) = ⊥
  SameCow same_borrowed same_owned (Owned x) (Owned y) = same_owned x y

-- the content, be it borrowed or owned
abbrev pub content_of : {R O C : Type 0} → (R → C) → (O → C) → TryCowOf R O → C
content_of of_borrowed of_owned (Borrowed r) = of_borrowed r
content_of of_borrowed of_owned (Owned x) = of_owned x

-- the value, the bytes and the elements
abbrev pub cow_value : {B : Type 0} → TryCowOf (Bor B) B → B
cow_value = content_of (λ r. r.now) (λ x. x)

abbrev pub cow_bytes : TryCowOf (Bor (List ℕ)) TryString → List ℕ
cow_bytes = content_of (λ r. r.now) (λ s. s.bytes)

abbrev pub cow_items : {T : Type 0} → TryCowOf (Bor (List T)) (TryVec T) → List T
cow_items = content_of (λ r. r.now) (λ v. v.items)

-- a copy of c is never refused: it is borrowed, or a copy of what it owns never is
abbrev pub NeverRefused : {R O : Type 0} → (O → Type 0) → TryCowOf R O → Type 0
NeverRefused never_refused (Borrowed r) = ⊤
NeverRefused never_refused (Owned x) = never_refused x
