use Rattle.std.proofs.Common.{length, refl, sym, subst}
use Rattle.std.specs.Prelude.{slice_index_or, ◌≡◌}
use Rattle.demand_api.proofs.Choosing.{chosen_at, chosen_done, chosen_same, chosen_whole}
use Rattle.demand_api.proofs.crowd.Crowd.choose.Goals as goal

pub loop-student-preserved : goal.loop-student-preserved
loop-student-preserved c = (
  chosen_at c.args.self.now.menus.items c.args.students.now c.loop-student.student-index _ c.loop-student.menus.items c.push.new.self.items c.in_ok-menu.menu
      c.from-place.result c.loop-student-test.true
      (length c.args.self.now.menus.items) refl c.requires.range c.loop-student.invariant.0 c.in_ok-push.ensures.items c.from-place.ensures
      (subst (λ menu. menu ≡ slice_index_or c.args.self.now.menus.items c.from-place.result menu) (sym c.in_ok-menu.ensures) c.index.ensures),
  chosen_at c.args.self.now.budgets.items c.args.students.now c.loop-student.student-index _ c.loop-student.budgets.items c.push-in-loop-student.new.self.items
      _ c.from-place.result c.loop-student-test.true
      (length c.args.self.now.menus.items) (sym c.args.self.now.same) c.requires.range c.loop-student.invariant.1 c.in_ok-push-2.ensures.items
      c.from-place.ensures c.index-budget.ensures,
)

pub invariant_of-result : goal.invariant_of-result
invariant_of-result c =
    let menus = chosen_done c.args.self.now.menus.items c.args.students.now c.loop-student.student-index c.loop-student.menus.items
    c.loop-student-test.false c.loop-student.invariant.0 in
    let budgets = chosen_done c.args.self.now.budgets.items c.args.students.now c.loop-student.student-index c.loop-student.budgets.items
    c.loop-student-test.false c.loop-student.invariant.1 in
    record {
      same = chosen_same c.args.self.now.menus.items c.args.self.now.budgets.items c.args.students.now c.loop-student.menus.items
          c.loop-student.budgets.items menus budgets;
      whole = chosen_whole c.args.self.now c.args.students.now c.loop-student.menus.items c.loop-student.budgets.items c.requires.few menus budgets;
    }
