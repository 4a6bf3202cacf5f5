use Rattle.std.proofs.Common.{◌≡◌, ◌++◌, ◌∷◌, drop, length, take}
use Rattle.demand_oracle.proofs.leading.Leading.put.Given as goal

-- the nodes so far, the moved one and those behind it are all, with the new one
abbrev pub invariant-later : goal.invariant-later
invariant-later l = record {
  count : l.self.count ≡ l.initial.self.count;
  wide : length l.self.nodes ≡ 8;
  whole : take l.place l.self.nodes ++ l.moved ∷ drop l.place (take l.self.count l.self.nodes)
      ≡ take l.at (take l.initial.self.count l.initial.self.nodes) ++ l.node ∷ drop l.at (take l.initial.self.count l.initial.self.nodes);
}
