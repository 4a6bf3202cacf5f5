use Rattle.std.proofs.Common.{ℕ, ◌≡◌, ◌<◌, false, get_or}
use Rattle.dropadd_desk.specs.Fits.{fits}
use Rattle.dropadd_desk.specs.HallView.{market_of, state_of}
use Rattle.dropadd_desk.specs.Step.{held_by}
use Rattle.dropadd_desk.proofs.desk.HallDesk.first_fitting.Given as goal

-- the section fits none of those so far
abbrev pub invariant-loop-place : goal.invariant-loop-place
invariant-loop-place l =
    (k : ℕ) → k < l.place → fits (market_of l.self) (get_or l.waiting k 0) l.section.0 (held_by (state_of l.self) (get_or l.waiting k 0)) ≡ false
