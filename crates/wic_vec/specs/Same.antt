-- Same content, of values that have others in them.
use Rattle.std.specs.Prelude.{Option, Result, IsNone, IsSomeAnd, IsOkAnd, IsErrAnd, MatchOption, MatchResult}

-- both have nothing in them, or both have the same
abbrev pub SameOption : {T : Type 0} → (T → T → Type 0) → Option T → Option T → Type 0
SameOption same a b = MatchOption a (IsNone b) (λ x. IsSomeAnd b (same x))

-- both are Ok with the same in them, or both are Err with the same in them
abbrev pub SameResult : {T E : Type 0} → (T → T → Type 0) → (E → E → Type 0) → Result T E → Result T E → Type 0
SameResult same_value same_error a b =
    MatchResult a (λ x. IsOkAnd b (same_value x)) (λ e. IsErrAnd b (same_error e))
