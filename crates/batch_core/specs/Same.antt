-- When two workspaces have the same contents: how they came to them and what comes next isn't compared.
use Rattle.std.specs.Prelude.{◌≡◌, ℕ, ◌==◌, ◌&&◌, Bool, IsTrue}
use Rattle.std.specs.Cmp.Lexicographic.{pointwise}
use Rattle.std.specs.FinMap.{entries}
use Rattle.batch_core.specs.State.{Contents}

module _ {T : Type 0} where
  -- the ids are the same, and the values are equal
  abbrev pub same_pair : (T → T → Bool) → ℕ × T → ℕ × T → Bool
  same_pair equal pair other = (pair.0 == other.0) && equal pair.1 other.1

  -- the lists have equal values, the sets the same members, and the tables the same ids with equal values
  pub record HaveSameContents (equal : T → T → Bool) (contents other : Contents T) : Type 0 where
    pub list : IsTrue (pointwise equal contents.list other.list)
    pub set : contents.set ≡ other.set
    pub live : IsTrue (pointwise (same_pair equal) (entries contents.live) (entries other.live))
