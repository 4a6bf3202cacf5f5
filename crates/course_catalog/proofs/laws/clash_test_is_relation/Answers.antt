use Rattle.course_catalog.proofs.ClashFacts.{sections_clash-relation}
use Rattle.course_catalog.proofs.laws.clash_test_is_relation.Goals as goal

pub returns : goal.returns
returns c = sections_clash-relation
