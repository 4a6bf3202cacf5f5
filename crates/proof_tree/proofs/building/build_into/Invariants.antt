use Rattle.std.proofs.Common.{◌≡◌, ◌≤◌, None, length, take, drop}
use Rattle.bundle_rules.specs.Bundles.{sections_of}
use Rattle.bundle_bounds.specs.Offers.{offer_of}
use Rattle.proof_tree.specs.Standing.{HaveStems}
use Rattle.proof_tree.specs.Steps.{AreWaiting, spots_of, waiting_of, nodes_left}
use Rattle.proof_tree.proofs.Writing.{IsWritten}
use Rattle.proof_tree.proofs.building.build_into.Given as goal

-- the tree is what is written, and the trees of the nodes that wait; the room behind it is as it was
abbrev pub invariant-nodes : goal.invariant-nodes
invariant-nodes l = record {
  waiting : AreWaiting (offer_of l.claim.offer.now.menu.now l.prices l.fn.budget.0 l.allowed) l.walk;
  stems : HaveStems (offer_of l.claim.offer.now.menu.now l.prices l.fn.budget.0 l.allowed) (sections_of l.champion) l.walk;
  written : IsWritten (offer_of l.claim.offer.now.menu.now l.prices l.fn.budget.0 l.allowed) None (sections_of l.champion) (take l.count l.room) (spots_of l.claim.offer.now.menu.now (waiting_of l.walk));
  within : l.count ≤ length l.room;
  size : length l.room ≡ length l.fn.room;
  same : drop l.count l.room ≡ drop l.count l.fn.room;
}

abbrev pub decreases-nodes : goal.decreases-nodes
decreases-nodes l = nodes_left (offer_of l.claim.offer.now.menu.now l.prices l.fn.budget.0 l.allowed) (spots_of l.claim.offer.now.menu.now (waiting_of l.walk))
