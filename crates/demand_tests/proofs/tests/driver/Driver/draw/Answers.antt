use Rattle.std.proofs.Common.{rules, ◌≡◌, ◌<◌, None, length}
use Rattle.demand_tests.proofs.Driving.{worker_at, idle, worker_drew, driven_again}
use Rattle.demand_tests.proofs.tests.driver.Driver.draw.Goals as goal

pub draw-drawn-requires-clause-seat : goal.draw-drawn-requires-clause-seat
draw-drawn-requires-clause-seat g c =
    let low : c.args.worker < length c.self.inside.seats.items = search rules in
    (worker_at _ _ _ _ _ _ c.args.worker c.index_mut.result.now c.index.result.now c.self.invariant low c.index_mut.ensures.value c.index.ensures).is_seat

pub draw-drawn-requires-clause-holds_nothing : goal.draw-drawn-requires-clause-holds_nothing
draw-drawn-requires-clause-holds_nothing g c =
    let low : c.args.worker < length c.self.inside.seats.items = search rules in
    let none : c.index.result.now.0 ≡ None = search rules in
    (idle _ _ _ _
    (worker_at _ _ _ _ _ _ c.args.worker c.index_mut.result.now c.index.result.now c.self.invariant low c.index_mut.ensures.value c.index.ensures) none).0

pub draw-drawn-requires-clause-not_done : goal.draw-drawn-requires-clause-not_done
draw-drawn-requires-clause-not_done g c =
    let low : c.args.worker < length c.self.inside.seats.items = search rules in
    let none : c.index.result.now.0 ≡ None = search rules in
    (idle _ _ _ _
    (worker_at _ _ _ _ _ _ c.args.worker c.index_mut.result.now c.index.result.now c.self.invariant low c.index_mut.ensures.value c.index.ensures) none).1

pub invariant_of-self : goal.invariant_of-self
invariant_of-self g c =
    let low : c.args.worker < length c.self.inside.seats.items = search rules in
    driven_again _ _ _ _ _ _ c.args.worker c.draw-drawn.new.seat _ c.self.invariant low
    (worker_drew _ _ _ _ c.index.result.now c.draw-drawn.result
    (worker_at _ _ _ _ _ _ c.args.worker c.index_mut.result.now c.index.result.now c.self.invariant low c.index_mut.ensures.value c.index.ensures)
    c.draw-drawn.ensures.drawn)
