use Rattle.std.proofs.Common.{ℕ, ◌≡◌, ◌<◌, length, slice_index}
use Rattle.bundle_rules.specs.Menus.{credits_at}
use Rattle.demand_oracle.proofs.goods.credits_of.Given as goal

-- the credits of the places so far
abbrev pub invariant-loop-place : goal.invariant-loop-place
invariant-loop-place l = record {
  whole : length l.row ≡ 60;
  filled : (p : ℕ) → p < l.place → slice_index l.row p ≡ credits_at l.menu.places p;
}
