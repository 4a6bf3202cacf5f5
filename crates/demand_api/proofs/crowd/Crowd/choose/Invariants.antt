use Rattle.std.proofs.Common.{take}
use Rattle.demand_api.specs.Choosing.{AreChosen}
use Rattle.demand_api.proofs.crowd.Crowd.choose.Given as goal

abbrev pub invariant-loop-student : goal.invariant-loop-student
invariant-loop-student l =
    AreChosen l.self.menus.items (take l.student-index l.students) l.menus.items
    × AreChosen l.self.budgets.items (take l.student-index l.students) l.budgets.items
