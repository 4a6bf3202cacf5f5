use Rattle.std.proofs.Common.{◌≡◌, ◌<◌, ◌≤◌, ◌+◌, ◌-◌, ℕ, max, length, slice_index}
use Rattle.demand_oracle.proofs.tables.put_most_within.Given as goal

-- the numbers of units so far are those of the later row
abbrev pub invariant-dear : goal.invariant-dear
invariant-dear l = record {
  whole : length l.most ≡ 64;
  dear : (one : ℕ) → l.first ≤ one → one < l.units → slice_index l.most one ≡ slice_index l.later one;
}

-- behind them those so far are filled
abbrev pub invariant-more : goal.invariant-more
invariant-more l = record {
  whole : length l.most ≡ 64;
  dear : (one : ℕ) → l.first ≤ one → one ≤ l.top → one < l.gain.cost → slice_index l.most one ≡ slice_index l.later one;
  more : (one : ℕ) → l.first ≤ one → l.gain.cost ≤ one → one < l.units → slice_index l.most one ≡ max (slice_index l.later one) (slice_index l.apart (one - l.gain.cost) + l.gain.value);
}
