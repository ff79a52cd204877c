-- What one call of a device in memory makes of it.
use Rattle.std.proofs.Common.{◌≡◌, ◌≤◌, ◌∙◌, ◌++◌, ℕ, List, ap, length, take, drop, min, sym, arith}
use Rattle.std.proofs.lemmas.List.{take-append-drop, length-take}
use Rattle.batch_script.specs.MemoryDevice.{Gave}

-- the first bytes that were left were given, which is one call that gave bytes if there are any
pub front_gave : (count : ℕ) (left left_after : List ℕ) → count ≤ length left → left_after ≡ drop count left
    → Gave (min count 1) left left_after
front_gave count left left_after there rest = record {
  given = take count left;
  parts = sym (take-append-drop count left) ∙ ap (λ later. take count left ++ later) (sym rest);
  each = let long = length-take count left in omega arith;
}
