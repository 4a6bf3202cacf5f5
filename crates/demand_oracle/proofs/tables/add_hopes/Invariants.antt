use Rattle.std.proofs.Common.{◌≡◌, ◌<◌, ◌≤◌, ◌+◌, ℕ, length, slice_index}
use Rattle.bundle_rules.specs.Menus.{adjustment_in}
use Rattle.bundle_bounds.specs.Opens.{above_zero}
use Rattle.demand_oracle.proofs.tables.add_hopes.Given as goal

-- the places so far have what the adjustment with this place can add besides, and the others are as they were
abbrev pub invariant-loop-earlier : goal.invariant-loop-earlier
invariant-loop-earlier l = record {
  whole : length l.hopes ≡ 60;
  filled : (one : ℕ) → one < l.earlier → slice_index l.hopes one ≡ slice_index l.initial.hopes one + above_zero (adjustment_in l.spot.offer.now.menu.now.pairs one l.spot.place);
  rest : (one : ℕ) → l.earlier ≤ one → slice_index l.hopes one ≡ slice_index l.initial.hopes one;
}
