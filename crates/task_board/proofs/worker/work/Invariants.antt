use Rattle.std.proofs.Common.{◌≡◌, ◌-◌}
use Rattle.task_board.specs.Seats.{IsFree, posts}
use Rattle.task_board.proofs.worker.work.Given as goal

-- between two tasks the worker is free, and its board is the same
abbrev pub invariant-tasks : goal.invariant-tasks
invariant-tasks g l = record {
  numbered : l.seat.number ≡ l.fn.seat.number;
  free : IsFree g.T.Tasks.rules (g.W.Worker.board l.worker) l.seat;
  board : g.W.Worker.board l.worker ≡ g.W.Worker.board l.fn.worker;
  seats : g.W.Worker.seats l.worker ≡ g.W.Worker.seats l.fn.worker;
}

-- the posts that are left
abbrev pub decreases-tasks : goal.decreases-tasks
decreases-tasks g l = g.T.Tasks.rules.count (g.W.Worker.board l.worker).base - posts l.seat.own
