-- What a value is read as that becomes an iterator.
module _ {U S : Type 0} (becomes : U → S → Type 0) where
  -- what it becomes may be asked for items
  abbrev pub IsReady : (S → Type 0) → U → Type 0
  IsReady can iter = (it : S) → becomes iter it → can it

  -- it becomes an iterator of which this holds
  abbrev pub BecomesOne : U → (S → Type 0) → Type 0
  BecomesOne iter P = (it : S) × becomes iter it × P it
