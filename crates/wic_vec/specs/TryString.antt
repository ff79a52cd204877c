-- What a contract sees of a `TryString`.
use Rattle.std.specs.Prelude.{ℕ, ◌+◌, ◌≤◌, List, length, Result, refl}
use Rattle.std.specs.Coded.{Coded, code_by, coded×, coded_ℕ, coded_list}
use Rattle.wic_vec.specs.Room.{MakesRoom, PutsAtEnd}

-- the UTF-8 bytes of the text, and how many bytes fit without an allocation
pub record TryString : Type 0 where
  pub bytes : List ℕ
  pub capacity : ℕ

-- a text is stored as the pair of its fields
abbrev pub try_string_code : Coded TryString
try_string_code =
    code_by (List ℕ × ℕ) (coded× (coded_list coded_ℕ) coded_ℕ) (λ s. (s.bytes, s.capacity))
    (λ p. record { bytes = p.0; capacity = p.1 }) (λ _. refl)

-- so many more bytes fit without an allocation
abbrev pub HasRoomFor : TryString → ℕ → Type 0
HasRoomFor s more = length s.bytes + more ≤ s.capacity

-- room is made for so many more bytes
abbrev pub Reserves : {A E : Type 0} → TryString → TryString → ℕ → Result A E → Type 0
Reserves old new more result = MakesRoom (λ s. length s.bytes) (λ s. s.capacity) old new more result

-- these bytes are put at the end
abbrev pub Appends : {A E : Type 0} → TryString → TryString → List ℕ → Result A E → Type 0
Appends old new more result = PutsAtEnd (λ s. s.bytes) (λ s. s.capacity) old new more result
