use Rattle.std.proofs.Common.{rules, ◌≡◌, ◌<◌, ◌≤◌, ◌⊎◌, ◌+◌, ◌*◌, ℕ, None, Some, length, sym, subst, arith, inl, inr}
use Rattle.std.specs.Arc.{arc_value}
use Rattle.std.proofs.Math.Nat.{mul-le-mul_right}
use Rattle.demand_api.proofs.Parts.{students_few, students_length}
use Rattle.price_board.specs.declared.drawn.Draw.TheVariants.{Task}
use Rattle.price_board.specs.Terms.{task_count}
use Rattle.task_board.specs.Seats.{posts}
use Rattle.demand_tests.proofs.Driving.{numbered_there, worker_at, worker_posted, driven_again}
use Rattle.demand_tests.proofs.tests.driver.Driver.post.Goals as goal
use Rattle.demand_tests.proofs.tests.driver.Driver.post.Goals.{then-eq, else-eq}

pub overflow_mul-version : goal.overflow_mul-version
overflow_mul-version g c =
    let crowd = c.deref.result.now in
    let students : ℕ = c.len-students.result in
    let few : students ≤ 2000 = omega (arith, c.len-students.ensures, crowd.menus.ok.0, students_few crowd, students_length crowd) in
    let low : c.args.drawn.task.version < 16 = search rules in
    let most : c.args.drawn.task.version * students ≤ 15 * students =
    mul-le-mul_right students (let goal : c.args.drawn.task.version ≤ 15 = omega arith in goal) in
    omega (arith, most, few)

pub overflow_add-version : goal.overflow_add-version
overflow_add-version g c =
    let crowd = c.deref.result.now in
    let students : ℕ = c.len-students.result in
    let few : students ≤ 2000 = omega (arith, c.len-students.ensures, crowd.menus.ok.0, students_few crowd, students_length crowd) in
    let low : c.args.drawn.task.version < 16 = search rules in
    let within : c.args.drawn.task.student.0 < students = search rules in
    let most : c.args.drawn.task.version * students ≤ 15 * students =
    mul-le-mul_right students (let goal : c.args.drawn.task.version ≤ 15 = omega arith in goal) in
    omega arith

pub post-posted-requires-clause-seat : goal.post-posted-requires-clause-seat
post-posted-requires-clause-seat g c =
    let low : c.args.worker < length c.self.inside.seats.items = search rules in
    (worker_at _ _ _ _ _ _ c.args.worker c.index_mut.result.now c.index.result.now c.self.invariant low c.index_mut.ensures.value c.index.ensures).is_seat

pub post-posted-requires-clause-task : goal.post-posted-requires-clause-task
post-posted-requires-clause-task g c =
    let low : c.args.drawn.task.version < length c.self.inside.versions.items = search rules in
    let within : c.args.drawn.task.student.0 < length (arc_value c.self.inside.crowd).menus.items = search rules in
    let plain : c.args.drawn.task.raised ≡ None = search rules in
    let is : c.args.drawn.number ≡ c.args.drawn.task.version * length (arc_value c.self.inside.crowd).menus.items + c.args.drawn.task.student.0 =
    search rules in
    numbered_there c.self.inside.board (arc_value c.self.inside.crowd) c.self.inside.versions.items c.args.drawn c.self.invariant.its_crowd
    c.self.invariant.its_versions c.self.invariant.each_student low within plain is

pub post-posted-requires-clause-post_left : goal.post-posted-requires-clause-post_left
post-posted-requires-clause-post_left g c =
    let low : c.args.worker < length c.self.inside.seats.items = search rules in
    let p : ℕ = posts c.index_mut.result.now.own in
    let t : ℕ = task_count c.self.inside.board.base in
    let is : p ≡ c.index.result.now.1 =
    (worker_at _ _ _ _ _ _ c.args.worker c.index_mut.result.now c.index.result.now c.self.invariant low c.index_mut.ensures.value c.index.ensures).posts in
    let few : c.index.result.now.1 < c.self.inside.tasks = search rules in
    let all : c.self.inside.tasks ≤ t = c.self.invariant.tasks in
    let goal : p < t = omega arith in goal

pub invariant_of-self : goal.invariant_of-self
invariant_of-self g c =
    let low : c.args.worker < length c.self.inside.seats.items = search rules in
    let since : (c.index.result.now.0 ≡ None) ⊎ (c.index.result.now.0 ≡ Some (Task c.args.drawn)) =
    elim c.if-eq.branch [ then-eq w ↦ inl (search rules) | else-eq w ↦ inr (search rules) ] in
    driven_again _ _ _ _ _ _ c.args.worker c.post-posted.new.seat _ c.self.invariant low
    (worker_posted _ _ _ _ c.index.result.now c.args.drawn _ c.post-posted.result
    (worker_at _ _ _ _ _ _ c.args.worker c.index_mut.result.now c.index.result.now c.self.invariant low c.index_mut.ensures.value c.index.ensures) since
    c.post-posted.ensures)
