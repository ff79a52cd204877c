-- When a run is refused.
use Rattle.std.specs.Prelude.{⊤, ℕ, List}
use Rattle.batch_script.specs.Grammar.{IsScript, IsFaultLine}
use Rattle.batch_script.specs.declared.run_error.RunError.{RunError}
use Rattle.batch_script.specs.declared.run_error.RunError.TheVariants.{Syntax, Oom}

-- a fault is told only if the input is no script, at the line of its fault; out of memory may always be told
abbrev pub IsJustifiedBy : (List ℕ → Type 0) → (List ℕ → ℕ → Type 0) → List ℕ → RunError → Type 0
IsJustifiedBy AScript AFaultLine input (Syntax line) = (¬ AScript input) × AFaultLine input line
IsJustifiedBy AScript AFaultLine input Oom = ⊤

-- so it is for scripts of batches
abbrev pub IsJustified : List ℕ → RunError → Type 0
IsJustified = IsJustifiedBy IsScript IsFaultLine
