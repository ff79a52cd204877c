use Rattle.batch_core.proofs.RoomFacts.{fits_larger}
use Rattle.batch_core.specs.Course.{course_of, places_of}
use Rattle.batch_core.proofs.laws.law_larger_room.Goals as goal

pub returns : goal.returns
returns g c = record {
  batches = λ room larger contents batch. fits_larger room larger (places_of batch) (course_of contents batch).stands;
  courses = fits_larger;
}
