-- What a contract sees of a handle.
use Rattle.std.specs.Prelude.{ℕ, refl}
use Rattle.std.specs.Coded.{Coded, code_by, coded×, coded_ℕ}

-- an id, and the generation in which it was handed out
pub record Handle : Type 0 where
  pub id : ℕ
  pub generation : ℕ

-- a handle is stored as the pair of its fields
abbrev pub handle_code : Coded Handle
handle_code = code_by (ℕ × ℕ) (coded× coded_ℕ coded_ℕ) (λ h. (h.id, h.generation)) (λ p. record { id = p.0; generation = p.1 }) (λ _. refl)
