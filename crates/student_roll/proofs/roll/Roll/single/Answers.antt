use Rattle.std.proofs.Common.{rules, ◌≡◌, [], ◌∷◌}
use Rattle.market_units.specs.Name.{name_bytes}
use Rattle.student_roll.specs.Students.{single_student}
use Rattle.student_roll.proofs.SingleRoll.{keeps_one}
use Rattle.student_roll.proofs.roll.Roll.single.Goals as goal

pub invariant_of-result : goal.invariant_of-result
invariant_of-result c =
    let keys : c.insert.new.self.keys ≡ c.args.name ∷ [] = search rules in
    let students : c.push.new.self.items ≡ single_student (name_bytes c.args.name) c.args.credits c.args.courses ∷ [] = search rules in
    keeps_one _ _ c.args.name c.args.credits c.args.courses c.requires.credits c.requires.courses keys students
