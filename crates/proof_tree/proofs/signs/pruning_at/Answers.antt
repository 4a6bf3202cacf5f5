use Rattle.bundle_rules.specs.Bundles.{sections_of}
use Rattle.proof_tree.specs.Claims.{offer_in, champion_in}
use Rattle.proof_tree.proofs.OnWay.{none_prunes_on_way}
use Rattle.proof_tree.proofs.signs.pruning_at.Goals as goal

pub returns-then-is_on_way-clause-none : goal.returns-then-is_on_way-clause-none
returns-then-is_on_way-clause-none c =
    let visit = c.args.visit.now in
    none_prunes_on_way (offer_in visit.claim) c.len.ensures.menu visit.node.place (sections_of visit.node.chosen) (champion_in visit.claim) visit.is_node
    visit.claim.takable (c.is_on_way.ensures c.if-is_on_way.true)
