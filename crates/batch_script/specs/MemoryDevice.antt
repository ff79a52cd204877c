-- What contracts see of the devices in memory.
use Rattle.std.specs.Prelude.{◌≡◌, ℕ, ◌+◌, ◌-◌, ◌^◌, ◌<◌, ◌≤◌, min, List, [], ◌++◌, length}

-- the number of the next call, counted from 1; it stands still at the last number
abbrev pub next_call : ℕ → ℕ
next_call calls = min (calls + 1) (2 ^ 64 - 1)

-- a source in memory: the bytes left, the most bytes that a call gives, the numbers of the calls that fail, how many
-- calls there were and how many failed
pub record MemSource : Type 0 where
  pub left : List ℕ
  pub piece : ℕ
  pub failing : List ℕ
  pub calls : ℕ
  pub faults : ℕ

-- a sink in memory: the bytes written, how many it holds at most, the most bytes that a call takes, the numbers of the
-- calls that fail, how many calls there were and how many failed
pub record MemSink : Type 0 where
  pub bytes : List ℕ
  pub room : ℕ
  pub piece : ℕ
  pub failing : List ℕ
  pub calls : ℕ
  pub faults : ℕ

-- calls gave bytes from the front of what was left, at least one byte each
pub record Gave (calls : ℕ) (left left_after : List ℕ) : Type 0 where
  pub given : List ℕ
  pub parts : left ≡ given ++ left_after
  pub each : calls ≤ length given

-- What calls make of a source in memory, of which so many gave bytes.
pub record SourceReaches (calls : ℕ) (before after : MemSource) : Type 0 where
  -- the bytes that are left are a rest of those before
  pub gave : Gave calls before.left after.left
  -- pieces and failing calls stay
  pub piece : after.piece ≡ before.piece
  pub failing : after.failing ≡ before.failing
  -- if no call is listed as failing no fault is counted
  pub quiet : before.failing ≡ [] → after.faults ≡ before.faults

-- What calls make of a sink in memory, of which so many took bytes.
pub record SinkReaches (calls : ℕ) (before after : MemSink) : Type 0 where
  -- bytes are added behind those before, at least one byte by each of these calls
  pub taken : List ℕ
  pub bytes : after.bytes ≡ before.bytes ++ taken
  pub each : calls ≤ length taken
  -- room, pieces and failing calls stay
  pub room : after.room ≡ before.room
  pub piece : after.piece ≡ before.piece
  pub failing : after.failing ≡ before.failing
  -- if no call is listed as failing and the room is not used up no fault is counted
  pub quiet : before.failing ≡ [] → length after.bytes < after.room → after.faults ≡ before.faults

-- Calls of a sink that counts alone, of which so many took bytes, at least one each; the number stands still at the last one.
pub record Counted (calls before after : ℕ) : Type 0 where
  pub taken : ℕ
  pub each : calls ≤ taken
  pub counted : min (before + taken) (2 ^ 64 - 1) ≤ after
  pub no_more : after ≤ before + taken
