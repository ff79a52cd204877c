-- What was read of an iterator, and why the reading stopped.
use Rattle.std.specs.Prelude.{◌≡◌, ◌<◌, ℕ, List, map, length, Option, Some, None, Result, Ok, Err, IsOk, IfSome}
use Rattle.std.specs.Iterator.{Yields}
use Rattle.wic_vec.specs.TryVec.{TryVec}
use Rattle.wic_collect.specs.declared.collect.Stop.{Stop}
use Rattle.wic_collect.specs.declared.collect.Stop.TheVariants.{Full, Ended, Error, Refused}

module _ {S X T E : Type 0} (steps : S → Option X → S → Type 0) (as_result : X → Result T E) where
  -- calls of `next` took s to t, and gave items that are Ok, with these values in them
  abbrev pub Reads : S → List T → S → Type 0
  Reads s values t = (items : List X) × Yields steps s items t × (map as_result items ≡ map Ok values)

  -- after such calls the items ended, at u
  abbrev pub ReadsAll : S → List T → S → Type 0
  ReadsAll s values u = (t : S) × Reads s values t × steps t None u

  -- after such calls one more took it to u, and gave an item of which this holds
  abbrev pub ReadsThen : S → List T → S → (Result T E → Type 0) → Type 0
  ReadsThen s values u P = (t : S) × (x : X) × Reads s values t × steps t (Some x) u × P (as_result x)

  -- why just these values were put into a vector, which is now v and was to have so many at most; reading them took s to u
  abbrev pub IsStoppedBy : Option ℕ → S → List T → S → TryVec T → Stop E → Type 0
  IsStoppedBy limit s values u v Full = Reads s values u × (limit ≡ Some (length v.items))
  IsStoppedBy limit s values u v Ended = ReadsAll s values u × IfSome limit (λ most. length v.items < most)
  IsStoppedBy limit s values u v (Error e) = ReadsThen s values u (λ r. r ≡ Err e)
  IsStoppedBy limit s values u v (Refused oom) =
      ReadsThen s values u IsOk × (length v.items ≡ v.capacity) × IfSome limit (λ most. length v.items < most)
