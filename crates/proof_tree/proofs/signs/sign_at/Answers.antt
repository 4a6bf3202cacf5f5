use Rattle.std.proofs.Common.{arith}
use Rattle.bundle_rules.specs.Bundles.{sections_of}
use Rattle.proof_tree.specs.Claims.{offer_in, champion_in, champions_places}
use Rattle.proof_tree.specs.Visits.{chosen_at}
use Rattle.proof_tree.proofs.Settling.{not_settled}
use Rattle.proof_tree.proofs.signs.sign_at.Goals as goal

pub returns-then-visit-len-clause-none : goal.returns-then-visit-len-clause-none
returns-then-visit-len-clause-none c =
    let visit = c.args.visit.now in
    let claim = visit.claim in
    record {
      unsettled =
          not_settled (offer_in claim) c.len.ensures.menu claim.required visit.node.place (sections_of visit.node.chosen) (champion_in claim)
          visit.is_node.takable claim.takable c.is_end.result c.is_shut.result c.is_end.ensures c.if-is_end.false c.is_shut.ensures c.if-is_shut.false;
      none_prunes = c.in_default.ensures.none;
      all = (let within = visit.within in omega arith);
    }

pub returns-clause-some : goal.returns-clause-some
returns-clause-some c =
    let visit = c.args.visit.now in
    let claim = visit.claim in
    c.next_sign.ensures (offer_in claim) (champions_places claim) (chosen_at visit) c.is_next_open-is_next_open.ensures
    record {
      unsettled =
          not_settled (offer_in claim) c.len.ensures.menu claim.required visit.node.place (sections_of visit.node.chosen) (champion_in claim)
          visit.is_node.takable claim.takable c.is_end.result c.is_shut.result c.is_end.ensures c.if-is_end.false c.is_shut.ensures c.if-is_shut.false;
      none_prunes = c.in_default.ensures.none;
      left = omega (arith, c.if-visit-len.false, c.len-2.ensures.value);
    }
