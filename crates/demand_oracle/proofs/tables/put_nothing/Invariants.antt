use Rattle.std.proofs.Common.{◌≡◌, ◌<◌, ℕ, length}
use Rattle.demand_oracle.specs.Reaches.{within_at}
use Rattle.demand_oracle.proofs.tables.put_nothing.Given as goal

-- nothing is added by the counts so far
abbrev pub invariant-loop-count : goal.invariant-loop-count
invariant-loop-count l = record {
  whole : length l.most ≡ 549;
  nothing : (count units : ℕ) → count < l.count → within_at l.most (length l.menu.places) count units ≡ 0;
}
