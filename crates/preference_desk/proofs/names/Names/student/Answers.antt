use Rattle.market_units.specs.declared.units.StudentNo.{StudentNo}
use Rattle.student_roll.specs.Students.{names_of}
use Rattle.preference_desk.proofs.NameLemmas.{found_below, found_is, found_ordinal, not_found_is_none}
use Rattle.preference_desk.proofs.names.Names.student.Goals as goal

pub returns-clause-has : goal.returns-clause-has
returns-clause-has c = found_is (λ (student : StudentNo). student.0) (names_of c.args.self.now.roll.students) c.args.name.now c.find.result c.find.ensures.place

pub returns-clause-ordinal : goal.returns-clause-ordinal
returns-clause-ordinal c = found_ordinal (λ (student : StudentNo). student.0) (names_of c.args.self.now.roll.students) c.args.name.now c.find.result c.find.ensures.place

pub returns-clause-within : goal.returns-clause-within
returns-clause-within c = found_below (λ (student : StudentNo). student.0) (names_of c.args.self.now.roll.students) c.args.name.now c.find.result c.find.ensures.place

pub returns-clause-none : goal.returns-clause-none
returns-clause-none c = not_found_is_none (λ (student : StudentNo). student.0) (names_of c.args.self.now.roll.students) c.args.name.now c.find.result c.find.ensures.place
