-- What the calls of a source and of a sink do.
use Rattle.std.specs.Prelude.{◌≡◌, ℕ, ◌+◌, ◌-◌, ◌^◌, ◌<◌, ◌≤◌, min, List, [], length, take, drop, Option, Some}
use Rattle.std.specs.Prelude.{Result, Ok, Err, OnOk, OnErr}
use Rattle.batch_script.specs.declared.device.Failed.{Failed}

-- a count of faults rose, or stands at its last value
abbrev pub Rose : ℕ → ℕ → Type 0
Rose before now = min (before + 1) (2 ^ 64 - 1) ≤ now

-- a call fails only if the count of faults rose, and an answer leaves the count as it was
pub record HasCause {T : Type 0} (before now : ℕ) (result : Result T Failed) : Type 0 where
  pub later : before ≤ now
  pub failed : OnErr result (Rose before now)
  pub kept : OnOk result (now ≡ before)

-- a read took the first bytes that were left into the front of the buffer, and none only at their end
pub record TakesFirst (left : List ℕ) (left_after : Option (List ℕ)) (buffer : List ℕ) (count : ℕ) : Type 0 where
  pub there : count ≤ length left
  pub read : take count buffer ≡ take count left
  pub rest : left_after ≡ Some (drop count left)
  pub ended : count ≡ 0 → 0 < length buffer → left ≡ []

-- how many calls this one adds to those that moved bytes: none if it failed or moved none
abbrev pub moves : Result ℕ Failed → ℕ
moves (Ok count) = min count 1
moves (Err failed) = 0

-- calls led from the one to the other, of which at most so many moved bytes
abbrev pub AtMost : {D : Type 0} → ℕ → (ℕ → D → D → Type 0) → D → D → Type 0
AtMost most reaches before after = (calls : ℕ) × (calls ≤ most) × reaches calls before after

-- What a call of the program made of a device: the bytes that it tells, those left of a source or those written to a sink, and its
-- count of faults, before and after.
pub record Use : Type 0 where
  pub told : Option (List ℕ)
  pub told_after : Option (List ℕ)
  pub faults : ℕ
  pub faults_after : ℕ

-- what the call made of this device
abbrev pub use_of : {D : Type 0} → (D → Option (List ℕ)) → (D → ℕ) → D → D → Use
use_of told faults before after =
    record { told = told before; told_after = told after; faults = faults before; faults_after = faults after }

-- a fault was counted in the call
abbrev pub HasFaults : Use → Type 0
HasFaults device = Rose device.faults device.faults_after

-- the count of faults is as before
abbrev pub Keeps : Use → Type 0
Keeps device = device.faults_after ≡ device.faults

-- this holds of the bytes that the device told before the call, if it tells them
abbrev pub OfTold : Use → (List ℕ → Type 0) → Type 0
OfTold device Fact = (bytes : List ℕ) → device.told ≡ Some bytes → Fact bytes
