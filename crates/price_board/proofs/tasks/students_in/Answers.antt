use Rattle.std.proofs.Common.{◌∙◌, arith, sym}
use Rattle.demand_api.proofs.Parts.{students_few, students_length}
use Rattle.price_board.proofs.tasks.students_in.Goals as goal

pub overflow_cast-result : goal.overflow_cast-result
overflow_cast-result c = omega (arith, c.len.ensures, c.args.crowd.now.menus.ok.0, students_few c.args.crowd.now, students_length c.args.crowd.now)

pub returns-clause-all : goal.returns-clause-all
returns-clause-all c round = c.len.ensures ∙ c.args.crowd.now.menus.ok.0 ∙ sym (students_length c.args.crowd.now)

pub returns-clause-few : goal.returns-clause-few
returns-clause-few c = omega (arith, c.len.ensures, c.args.crowd.now.menus.ok.0, students_few c.args.crowd.now, students_length c.args.crowd.now)
