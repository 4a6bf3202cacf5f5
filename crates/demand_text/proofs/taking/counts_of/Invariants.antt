use Rattle.std.proofs.Common.{◌≡◌, ◌≤◌, map}
use Rattle.std.specs.Prelude.{All}
use Rattle.bundle_rules.specs.Places.{places_from}
use Rattle.demand_api.specs.Crowds.{holders}
use Rattle.demand_text.proofs.taking.counts_of.Given as goal

abbrev pub invariant-sections : goal.invariant-sections
invariant-sections l = record {
  each : l.counts.items ≡ map (λ s. holders s l.held.bundles) (places_from 0 l.section);
  few : All (λ count. count ≤ 2000) l.counts.items;
}
