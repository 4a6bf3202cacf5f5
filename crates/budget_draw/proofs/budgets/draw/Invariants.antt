use Rattle.std.proofs.Common.{◌≡◌, ◌≤◌, All, take}
use Rattle.budget_draw.specs.Budgets.{amounts, budgets_of}
use Rattle.budget_draw.proofs.budgets.draw.Given as goal

-- the budgets of the students so far
abbrev pub invariant-loop-student : goal.invariant-loop-student
invariant-loop-student l = record {
  budgets : amounts l.drawn.items ≡ take l.student (budgets_of l.roll.students l.seed l.spread);
  range : All (λ budget. budget.0 ≤ 997951) l.drawn.items;
}
