-- Why a block was not added.
use Rattle.std.specs.Prelude.{Result, Ok, Err}
use Rattle.liveness.specs.declared.graph.GraphRefusal.{GraphRefusal}
use Rattle.liveness.specs.declared.graph.GraphRefusal.TheVariants.{Full, Oom}

-- there are as many blocks as there can be
abbrev pub IsFull : {T : Type 0} → Result T GraphRefusal → Type 0
IsFull (Ok x) = ⊥
IsFull (Err Full) = Unit {0}
IsFull (Err (Oom e)) = ⊥
