use Rattle.wic_vec.proofs.ListFacts.{front_turned_behind}
use Rattle.wic_vec.proofs.vec.drain.turn_front_to_end.Goals as goal

pub returns : goal.returns
returns g c = record {
  turned = front_turned_behind _ _ _ _ c.reverse.ensures.after c.reverse-2.ensures.after;
}
