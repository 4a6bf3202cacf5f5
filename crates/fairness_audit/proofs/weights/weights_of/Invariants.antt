use Rattle.std.proofs.Common.{◌≡◌, ◌<◌, ◌≤◌, ℕ, All, length, slice_index}
use Rattle.bundle_rules.specs.Menus.{section_at}
use Rattle.fairness_audit.specs.Weights.{weight_at}
use Rattle.fairness_audit.proofs.weights.weights_of.Given as goal

-- the weights of the places so far are written
abbrev pub invariant-places : goal.invariant-places
invariant-places l = record {
  count : length l.weights ≡ 400;
  few : All (λ weight. weight ≤ 20000) l.weights;
  each : (k : ℕ) → k < l.place → weight_at l.menu k ≤ slice_index l.weights (section_at l.menu.places k);
}
