use Rattle.std.proofs.Common.{◌/◌, ◌<◌}
use Rattle.wic_bitset.specs.From.{NoneUntil}
use Rattle.wic_bitset.proofs.plain.scan_from.Given as goal

abbrev pub invariant-loop-k : goal.invariant-loop-k
invariant-loop-k g l =
    NoneUntil g.T.ScalarBitSetStorage.width l.words.members l.i l.k × (l.i / g.T.ScalarBitSetStorage.width < l.k)
