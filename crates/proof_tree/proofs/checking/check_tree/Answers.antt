use Rattle.std.proofs.Common.{refl, sym, subst}
use Rattle.bundle_rules.specs.Bundles.{sections_of}
use Rattle.bundle_bounds.specs.Offers.{offer_of}
use Rattle.bundle_bounds.specs.Laws.{IsTakable}
use Rattle.proof_tree.proofs.Complete.{trees_prove_the_best}
use Rattle.proof_tree.proofs.NoDefects.{no_defect_in_a_tree}
use Rattle.proof_tree.proofs.Following.{ok_iff, if_err}
use Rattle.proof_tree.proofs.checking.check_tree.Goals as goal

pub invariant_of-claim : goal.invariant_of-claim
invariant_of-claim c =
    let takable : IsTakable (offer_of c.rows-menu.result.now c.args.prices.now c.args.budget.0 c.args.allowed.now) (sections_of c.args.champion.now) =
    subst (λ m. IsTakable (offer_of m c.args.prices.now c.args.budget.0 c.args.allowed.now) (sections_of c.args.champion.now)) (sym c.rows-menu.ensures)
    c.requires.champion in
    record { on_menu = tt; takable = takable }

pub returns-clause-ok : goal.returns-clause-ok
returns-clause-ok c =
    let takable : IsTakable (offer_of c.rows-menu.result.now c.args.prices.now c.args.budget.0 c.args.allowed.now) (sections_of c.args.champion.now) =
    subst (λ m. IsTakable (offer_of m c.args.prices.now c.args.budget.0 c.args.allowed.now) (sections_of c.args.champion.now)) (sym c.rows-menu.ensures)
    c.requires.champion in
    let offer = offer_of c.rows-menu.result.now c.args.prices.now c.args.budget.0 c.args.allowed.now in
    let champion = sections_of c.args.champion.now in
    rw (← c.rows-menu.ensures) (ok_iff c.follow.result _ _ _ c.follow.ensures.ok c.follow.ensures.defect
    (λ is. ((trees_prove_the_best offer champion c.len.ensures.menu takable).0 (is.0, is.1), is))
    (λ defect found both. no_defect_in_a_tree offer champion c.args.text.now defect c.len.ensures.menu both.1 (found refl)))

pub returns-clause-defect : goal.returns-clause-defect
returns-clause-defect c = rw (← c.rows-menu.ensures) (if_err c.follow.result _ _ c.follow.ensures.defect (λ defect found. found refl))
