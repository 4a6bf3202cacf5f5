use Rattle.std.proofs.Common.{All, Global, Vec, [], ◌≡◌, ◌<◌, ℕ, length, slice_index_or, take}
use Rattle.std.specs.Arc.{arc_value}
use Rattle.demand_workers.specs.Views.{crowd_of, price_before}
use Rattle.demand_workers.proofs.HoldersLeave.{AreMet, times}
use Rattle.demand_workers.proofs.leaving.holders_by_section.Given as goal

-- so many empty lists
abbrev pub invariant-sections : goal.invariant-sections
invariant-sections l = record {
  len : length l.lists.items ≡ l.counter;
  none : All (λ (list : Vec (ℕ × ℕ) Global). list.items ≡ []) l.lists.items;
}

-- the holders among the students so far
abbrev pub invariant-loop-place : goal.invariant-loop-place
invariant-loop-place l = record {
  len : length l.lists.items ≡ (arc_value l.remembered.crowd).sections;
  met : (s : ℕ) (d : Vec (ℕ × ℕ) Global) → s < length l.lists.items
      → AreMet (crowd_of l.remembered) (price_before l.remembered) s l.place 0 (slice_index_or l.lists.items s d).items;
}

-- and the next one, as often as a section was met in its bundle
abbrev pub invariant-loop-index : goal.invariant-loop-index
invariant-loop-index l = record {
  len : length l.lists.items ≡ (arc_value l.remembered.crowd).sections;
  met : (s : ℕ) (d : Vec (ℕ × ℕ) Global) → s < length l.lists.items
      → AreMet (crowd_of l.remembered) (price_before l.remembered) s l.place (times s (take l.index l.sections))
      (slice_index_or l.lists.items s d).items;
}
