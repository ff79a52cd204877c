-- Lists that are put together.
use Rattle.std.proofs.Common.{List, [], ◌∷◌, ◌++◌}
use Rattle.std.specs.List.{AllByRecursion}

-- if P holds of each element of xs ++ ys, it holds of each of ys
pub AllByRecursion-behind : {X : Type 0} (P : X → Type 0) (xs ys : List X) → AllByRecursion P (xs ++ ys) → AllByRecursion P ys
AllByRecursion-behind P [] ys h = h
AllByRecursion-behind P (x ∷ xs) ys h = AllByRecursion-behind P xs ys h.1
