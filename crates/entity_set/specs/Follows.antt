-- Following the jumps of blocks, as an example of a worklist.
use Rattle.std.specs.Prelude.{◌≡◌, ℕ, true, false}
use Rattle.std.specs.Ordering.{nat_cmp}
use Rattle.std.specs.FinSet.{FinSet, contains}

-- the blocks of `before` were done and those of `work` are on the worklist: all are done in the end, and so is each block that a
-- newly done one jumps to
pub record IsFollowed (jumps : ℕ → ℕ) (work before done : FinSet nat_cmp) : Type 0 where
  pub kept : (b : ℕ) → contains before b ≡ true → contains done b ≡ true
  pub taken : (b : ℕ) → contains work b ≡ true → contains done b ≡ true
  pub closed : (b : ℕ) → contains done b ≡ true → contains before b ≡ false → contains done (jumps b) ≡ true
