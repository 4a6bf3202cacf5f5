use Rattle.std.proofs.Common.{◌≡◌, ◌∙◌, sym, ◌≤◌, length, rules}
use Rattle.std.specs.Arc.{arc_value}
use Rattle.demand_api.proofs.Parts.{menus_few, students_length}
use Rattle.demand_workers.proofs.pooled_demands.PooledDemandsAnyGateDemands.students.Goals as goal

pub returns-clause-value : goal.returns-clause-value
returns-clause-value g c =
    let is : c.len.result ≡ (arc_value c.args.self.now.crowd).menus.len = rw c.deref-crowd.ensures at c.len.ensures in
    is ∙ (arc_value c.args.self.now.crowd).menus.ok.0
    ∙ sym (students_length (arc_value c.args.self.now.crowd))

pub returns-clause-crowd : goal.returns-clause-crowd
returns-clause-crowd g c = (arc_value c.args.self.now.crowd).whole

pub overflow_cast-result : goal.overflow_cast-result
overflow_cast-result g c = let few : length (arc_value c.args.self.now.crowd).menus.items ≤ 2000 = menus_few (arc_value c.args.self.now.crowd) in search rules
