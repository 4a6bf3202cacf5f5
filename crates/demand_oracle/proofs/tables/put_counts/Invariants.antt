use Rattle.std.proofs.Common.{◌≡◌, ◌<◌, ◌≤◌, ◌+◌, ◌-◌, ◌*◌, ℕ, max, length}
use Rattle.demand_oracle.specs.Reaches.{number_at, within_at, IsAsked}
use Rattle.demand_oracle.proofs.tables.put_counts.Given as goal

-- the counts so far are written, and no row of a later place
abbrev pub invariant-loop-count : goal.invariant-loop-count
invariant-loop-count l = record {
  whole : length l.most ≡ 549;
  none : (units : ℕ) → within_at l.most l.spot.place 0 units ≡ within_at l.initial.most (l.spot.place + 1) 0 units;
  later : (one units : ℕ) → (l.spot.place + 1) * 9 ≤ one → number_at l.most one units ≡ number_at l.initial.most one units;
  dear : (one units : ℕ) → one + 1 < l.count → IsAsked l.spot.offer.now.menu.now.courses l.top (one + 1) units → units < l.gain.cost
      → within_at l.most l.spot.place (one + 1) units ≡ within_at l.initial.most (l.spot.place + 1) (one + 1) units;
  more : (one units : ℕ) → one + 1 < l.count → IsAsked l.spot.offer.now.menu.now.courses l.top (one + 1) units → l.gain.cost ≤ units
      → within_at l.most l.spot.place (one + 1) units
      ≡ max (within_at l.initial.most (l.spot.place + 1) (one + 1) units) (within_at l.initial.most l.next one (units - l.gain.cost) + l.gain.value);
}
