-- What a contract sees of what an error keeps. No public clause cites this module.
use Rattle.std.specs.Prelude.{⊤, ℕ, ◌<◌, List, [], length, reverse, Option, Some, None}
use Rattle.wic_vec.specs.TryVec.{with_item}
use Rattle.wic_error.specs.Error.{Error, out_of_memory}
use Rattle.wic_error.specs.Repr.{error_of}
use Rattle.wic_error.specs.declared.repr.Repr.{Repr}
use Rattle.wic_error.specs.declared.repr.Repr.TheVariants.{Oom, Links}

module _ {K : Type 0} where
  -- the links, the root first
  abbrev pub kept_of : Repr K → List K
  kept_of (Oom size) = []
  kept_of (Links kept) = kept.items

  -- out of memory, with its size
  abbrev pub oom_of : Repr K → Option ℕ
  oom_of (Oom size) = Some size
  oom_of (Links kept) = None

  -- the error that is kept
  abbrev pub seen : Repr K → Error K
  seen (Oom size) = out_of_memory size
  seen (Links kept) = error_of (reverse kept.items)

  -- an error that isn't out of memory has a link
  abbrev pub IsLinked : Repr K → Type 0
  IsLinked (Oom size) = ⊤
  IsLinked (Links kept) = 0 < length kept.items

  -- the link at a place is written over
  abbrev pub with_kept : Repr K → ℕ → K → Repr K
  with_kept (Oom size) place link = Oom size
  with_kept (Links kept) place link = Links (with_item kept place link)
