use Rattle.std.proofs.Common.{◌≡◌, ◌≤◌, Some, All, length}
use Rattle.std.specs.Arc.{arc_value}
use Rattle.price_board.specs.declared.round.Task.{Task}
use Rattle.price_board.specs.Tasks.{IsTask}
use Rattle.demand_workers.specs.Views.{crowd_of}
use Rattle.demand_workers.proofs.Raising.{AreRestKept}
use Rattle.demand_workers.proofs.walks.Asker+AnyGate.raised_memory.Given as goal

-- who is none of the later holders, and is not asked, takes what stands for it
abbrev pub invariant-loop-place : goal.invariant-loop-place
invariant-loop-place g l = record {
  len : length l.bundles.items ≡ length (arc_value l.walk.notes.now.remembered).bundles.items;
  few : length l.list.items ≤ l.place;
  raised : All (λ (q : Task). q.raised ≡ Some (l.walk.section, l.walk.least)) l.list.items;
  asked : All (IsTask (crowd_of (arc_value l.walk.notes.now.remembered)) 1) l.list.items;
  kept : AreRestKept (crowd_of (arc_value l.walk.notes.now.remembered)) l.bundles.items l.prices.items l.place l.holders l.list.items;
}
