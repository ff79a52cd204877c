use Rattle.batch_core.proofs.RoomFacts.{fits_larger}
use Rattle.batch_nest.specs.Nest.{nest_course, nest_places}
use Rattle.batch_nest.proofs.laws.law_larger_room.Goals as goal

pub returns : goal.returns
returns g c room larger contents body = fits_larger room larger (nest_places body) (nest_course contents body).stands
