use Rattle.std.proofs.Common.{◌≡◌, ◌<◌, ◌≤◌, ℕ, true}
use Rattle.bundle_rules.specs.Menus.{credits_at}
use Rattle.bundle_bounds.specs.Views.{data_of}
use Rattle.bundle_bounds.specs.Offers.{allowed_at}
use Rattle.demand_oracle.proofs.tables.lightest.Given as goal

-- no allowed place so far has fewer credits
abbrev pub invariant-loop-place : goal.invariant-loop-place
invariant-loop-place l = record {
  lightest : (one : ℕ) → one < l.place → allowed_at (data_of l.offer) one ≡ true
      → l.lightest ≤ credits_at l.offer.menu.now.places one;
}
