use Rattle.course_catalog.proofs.ClashFacts.{one_number-one_course}
use Rattle.course_catalog.proofs.laws.course_numbers_tell_courses.Goals as goal

pub returns : goal.returns
returns c = one_number-one_course
