-- Out of memory, in words.
use Rattle.std.specs.Prelude.{ℕ, List, ◌++◌, codes}
use Rattle.std.specs.Fmt.{decimal}

-- the text for a size that was asked for
abbrev pub text_of : ℕ → List ℕ
text_of size = codes "out of memory (failed to allocate " ++ decimal size ++ codes " bytes)"
