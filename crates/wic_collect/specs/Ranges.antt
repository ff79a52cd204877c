-- What ranges of numbers give, in a form that a caller's proof finds: a range is no call, so no clause of std says it.
use Rattle.std.specs.Prelude.{◌≡◌, ℕ, ◌+◌, ◌-◌, ◌<◌, true, Option, MatchOption}
use Rattle.std.specs.declared.ops.Range.{Range}
use Rattle.std.specs.List.{range_with_len}
use Rattle.std.specs.Iterator.Runs.{EveryRun}

-- `next` of a range of unsigned numbers gives the start and raises it by one, until it is at the end
abbrev pub range_next_gives : Range ℕ → Option ℕ → Range ℕ → Type 0
range_next_gives old item new = (new.end ≡ old.end) × MatchOption item ((old.end - old.start ≡ 0) × (new.start ≡ old.start))
    (λ x. (0 < old.end - old.start) × (x ≡ old.start) × (new.start ≡ old.start + 1))

-- a range that is read to its end gives the numbers from its start to below its end, ascending, each once
abbrev pub RangesGiveTheirNumbers : Type 0
RangesGiveTheirNumbers = EveryRun range_next_gives
    (λ p. p.whole ≡ true → p.items ≡ range_with_len p.from.start (p.from.end - p.from.start))
