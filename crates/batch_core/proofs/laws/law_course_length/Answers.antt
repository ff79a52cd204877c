use Rattle.batch_core.proofs.CourseFacts.{batch_course-length}
use Rattle.batch_core.proofs.laws.law_course_length.Goals as goal

pub returns : goal.returns
returns g c = batch_course-length
