use Rattle.std.proofs.Common.{◌≡◌, length}
use Rattle.demand_workers.specs.Rounds.{prices_of}
use Rattle.demand_workers.specs.Surveys.{AreEachWithin}
use Rattle.demand_workers.proofs.unsettled.cheaper_at_each.Given as goal

-- of the versions so far it is known
abbrev pub invariant-versions : goal.invariant-versions
invariant-versions l = record {
  count : length l.cheaper.items ≡ l.version;
  within : AreEachWithin l.remembered.prices.items (prices_of l.versions) l.cheaper.items;
}
