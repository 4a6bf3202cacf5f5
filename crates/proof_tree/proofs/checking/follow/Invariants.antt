use Rattle.std.proofs.Common.{length}
use Rattle.proof_tree.specs.Claims.{offer_in, champion_in}
use Rattle.proof_tree.specs.Walks.{HasCome}
use Rattle.proof_tree.specs.Standing.{HaveStems}
use Rattle.proof_tree.specs.Steps.{AreWaiting, spots_of, waiting_of}
use Rattle.proof_tree.proofs.checking.follow.Given as goal

-- the walk along the text has come to the nodes that wait
abbrev pub invariant-nodes : goal.invariant-nodes
invariant-nodes l = record {
  waiting : AreWaiting (offer_in l.claim) l.walk;
  stems : HaveStems (offer_in l.claim) (champion_in l.claim) l.walk;
  come : HasCome (offer_in l.claim) l.claim.required (champion_in l.claim) l.text (spots_of (offer_in l.claim).menu (waiting_of l.walk)) l.rest;
}

abbrev pub decreases-nodes : goal.decreases-nodes
decreases-nodes l = length l.rest
