use Rattle.std.proofs.Common.{◌||◌, arith}
use Rattle.std.specs.Prelude.{not}
use Rattle.plain_facts.proofs.Truths.{not_false, not_true}
use Rattle.certificate_checker.proofs.Progressing.{progress_last, progress_within}
use Rattle.certificate_checker.proofs.progress.Progress.after_turn.Goals as goal

pub returns-then-self-students : goal.returns-then-self-students
returns-then-self-students c =
    λ p turns is made. progress_within c.args.students p turns c.args.self c.args.moved is c.requires.goes_on c.if-self-students.true made

pub returns : goal.returns
returns c = λ p turns is made.
    progress_last c.args.students p turns c.args.self c.args.moved (not (c.args.self.changed || c.args.moved)) is c.requires.goes_on (omega arith) made
    (not_true (c.args.self.changed || c.args.moved)) (not_false (c.args.self.changed || c.args.moved))
