-- How the links of an error lie in memory: the root first. No public clause cites this module.
use Rattle.std.specs.Prelude.{◌≡◌, ℕ, Bool, true, List, [], ◌∷◌, ◌++◌, length, reverse, None, find}
use Rattle.wic_error.specs.Error.{Error, out_of_memory, links}

module _ {K : Type 0} where
  -- the error that has these links, the newest first; there is one at least
  abbrev pub error_of : List K → Error K
  error_of [] = out_of_memory 0
  error_of (newest ∷ older) = links newest older

  -- the newest of the links that passes the test is at this place
  pub record IsNewestWith (test : K → Bool) (kept : List K) (place : ℕ) : Type 0 where
    pub older : List K
    pub found : K
    pub newer : List K
    pub parts : kept ≡ older ++ found ∷ newer
    pub at : length older ≡ place
    pub passes : test found ≡ true
    pub none_newer : find test (reverse newer) ≡ None
