use Rattle.proof_tree.specs.Claims.{offer_in, champion_in}
use Rattle.proof_tree.specs.Standing.{HaveStems}
use Rattle.proof_tree.specs.Steps.{AreWaiting, spots_of, waiting_of, nodes_left}
use Rattle.proof_tree.proofs.Writing.{IsWritten}
use Rattle.proof_tree.proofs.building.written.Given as goal

-- the tree is what is written, and the trees of the nodes that wait
abbrev pub invariant-nodes : goal.invariant-nodes
invariant-nodes l = record {
  waiting : AreWaiting (offer_in l.claim) l.walk;
  stems : HaveStems (offer_in l.claim) (champion_in l.claim) l.walk;
  written : IsWritten (offer_in l.claim) l.claim.required (champion_in l.claim) l.text.items (spots_of (offer_in l.claim).menu (waiting_of l.walk));
}

abbrev pub decreases-nodes : goal.decreases-nodes
decreases-nodes l = nodes_left (offer_in l.claim) (spots_of (offer_in l.claim).menu (waiting_of l.walk))
