use Rattle.demand_oracle.proofs.Descending.{GoesOn}
use Rattle.std.proofs.Common.{◌≤◌}
use Rattle.demand_oracle.proofs.below.+below.Given as goal

abbrev pub decreases-below : goal.decreases-below
decreases-below l = l.word

-- what the search of the places from here on gives from the champion so far is what the search of the node gives from the first one
abbrev pub invariant-places : goal.invariant-places
invariant-places l = record {
  goes_on : GoesOn l.question l.summed l.initial.leaders l.left l.leaders;
  fewer : l.left ≤ l.word;
}

abbrev pub decreases-places : goal.decreases-places
decreases-places l = l.left
