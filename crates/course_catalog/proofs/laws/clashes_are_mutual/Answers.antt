use Rattle.course_catalog.proofs.ClashFacts.{clashes_mutual}
use Rattle.course_catalog.proofs.laws.clashes_are_mutual.Goals as goal

pub returns : goal.returns
returns c = clashes_mutual
