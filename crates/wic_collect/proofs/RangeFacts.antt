-- What a range of numbers gives, as the list of them.
use Rattle.std.proofs.Common.{◌-◌, refl, sym, ◌∙◌, map-id}
use Rattle.std.proofs.iter.runs.Made.{took}
use Rattle.std.proofs.lemmas.Iterator.{items_from_drains, YieldsList-from_range}
use Rattle.wic_collect.specs.Ranges.{RangesGiveTheirNumbers}

pub range_whole : RangesGiveTheirNumbers
range_whole p _ whole =
    let ran = took p in
    sym (map-id p.items) ∙ items_from_drains p.items (ran.0, ran.1, λ _. ran.2 whole)
    (YieldsList-from_range p.from.start p.from.end (p.from.end - p.from.start) refl refl)
