use Rattle.std.proofs.Common.{arith}
use Rattle.entity_set.proofs.KeysFacts.{below-empty, below-insert}
use Rattle.entity_set.proofs.tests.jumps_are_followed.Goals as goal

pub follow-requires-clause-blocks : goal.follow-requires-clause-blocks
follow-requires-clause-blocks g c =
    below-insert 5 _ _ 2 (omega arith) c.in_ok-insert.ensures.members (below-empty 5 _ c.requires.work)

pub follow-requires-clause-done : goal.follow-requires-clause-done
follow-requires-clause-done g c = below-empty 5 _ c.requires.done
