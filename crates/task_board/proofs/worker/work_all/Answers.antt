use Rattle.std.proofs.Common.{rules, ℕ, ◌≡◌, ◌<◌, All, length, slice_index_or}
use Rattle.task_board.specs.Seats.{IsFinished, SeatOf}
use Rattle.task_board.proofs.Returning.{all_back, alone_back}
use Rattle.task_board.proofs.worker.work_all.Goals as goal

pub returns-then-threads-eq1-clause-back : goal.returns-then-threads-eq1-clause-back
returns-then-threads-eq1-clause-back g c =
    alone_back g.T.Tasks.rules (g.W.Worker.board c.args.worker.now) c.args.seats.now c.index-seats-0.result c.work.new.seat c.requires.begun (search rules)
    c.work.ensures.number c.work.ensures.finished

pub returns-clause-back : goal.returns-clause-back
returns-clause-back g c =
    let Seat = SeatOf g.row.T-Terms.Denot g.row.T-Answer.Denot in
    let count : length c.for_each_mut.new.s ≡ length c.args.seats.now = search rules in
    let numbers : (n : ℕ) (d : Seat) → n < length c.args.seats.now
    → (slice_index_or c.for_each_mut.new.s n d).number ≡ (slice_index_or c.args.seats.now n d).number = search rules in
    let finished : All (λ seat. IsFinished g.T.Tasks.rules (g.W.Worker.board c.args.worker.now) seat) c.for_each_mut.new.s = search rules in
    all_back g.T.Tasks.rules (g.W.Worker.board c.args.worker.now) c.args.seats.now c.for_each_mut.new.s _ c.requires.begun count numbers finished
