-- A graph as a list of blocks.
use Rattle.std.specs.Prelude.{◌≡◌, ◌==◌, ℕ, ◌<◌, Bool, true, false, ◌||◌, List, [], ◌∷◌, ◌++◌, length, slice_index_or, slice_set, nat_eq}
use Rattle.std.specs.List.{list_any}
use Rattle.liveness.specs.declared.graph.Block.{Block}
use Rattle.liveness.specs.declared.graph.Op.{Op}
use Rattle.liveness.specs.declared.graph.Op.TheVariants.{Use, Def}

-- a block: its ops and its successors
abbrev pub Body : Type 0
Body = List Op × List Block

-- a graph: its blocks, and how many variables there are
pub record Flow : Type 0 where
  pub blocks : List Body
  pub vars : ℕ

-- the variable of an op
abbrev pub var_of : Op → ℕ
var_of (Use w) = w.0
var_of (Def w) = w.0

-- block b of a graph
abbrev pub block : List Body → ℕ → Body
block g b = slice_index_or g b ([], [])

-- c is among the successors of a block
abbrev pub IsSuccessor : Body → ℕ → Type 0
IsSuccessor body c = list_any (λ s. nat_eq s.0 c) body.1 ≡ true

-- c is a successor of block b
abbrev pub HasEdge : List Body → ℕ → ℕ → Type 0
HasEdge g b c = IsSuccessor (block g b) c

-- each successor is a block
abbrev pub EdgesStayWithin : List Body → Type 0
EdgesStayWithin g = (b c : ℕ) → HasEdge g b c → c < length g

-- whether an op defines v
abbrev pub defines : List Op → ℕ → Bool
defines [] v = false
defines (Use w ∷ ops) v = defines ops v
defines (Def w ∷ ops) v = (w.0 == v) || defines ops v

-- the ops have a use of v, and none before it defines v
pub record HasExposedUse (ops : List Op) (v : ℕ) : Type 0 where
  pub before : List Op
  pub after : List Op
  pub parts : ops ≡ before ++ Use (record { 0 = v }) ∷ after
  pub undefined : defines before v ≡ false

-- g with an op more in block b
abbrev pub with_op : List Body → ℕ → Op → List Body
with_op g b op = slice_set g b ((block g b).0 ++ op ∷ [], (block g b).1)

-- g with an edge more
abbrev pub with_edge : List Body → ℕ → Block → List Body
with_edge g from to = slice_set g from ((block g from).0, (block g from).1 ++ to ∷ [])
