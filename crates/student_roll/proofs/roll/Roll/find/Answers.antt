use Rattle.student_roll.proofs.roll.Roll.find.Goals as goal

pub returns-in-Some-clause-found : goal.returns-in-Some-clause-found
returns-in-Some-clause-found c = rw (← c.self.view_is, ← c.self.invariant.names) c.in-Some.ensures.found
