use Rattle.std.proofs.Common.{length}
use Rattle.wic_base.specs.Sets.{AllBelow}
use Rattle.std.specs.Prelude.{slice_index}
use Rattle.entity_set.proofs.FollowFacts.{IsFollowing, to_do}
use Rattle.entity_set.proofs.callers.follow.Given as goal

abbrev pub invariant-loop-b : goal.invariant-loop-b
invariant-loop-b l = record {
  way : IsFollowing (slice_index l.jumps) l.initial.work.members l.initial.done.members l.work.members l.done.members;
  work : AllBelow (length l.jumps) l.work.members;
  done : AllBelow (length l.jumps) l.done.members;
}

abbrev pub decreases-loop-b : goal.decreases-loop-b
decreases-loop-b l = to_do (length l.jumps) l.work.members l.done.members
