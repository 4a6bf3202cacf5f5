use Rattle.std.proofs.Common.{sym, subst}
use Rattle.std.specs.FinSet as set
use Rattle.bundle_rules.specs.Menus.{wishes_of}
use Rattle.bundle_rules.specs.Demand.{price_in, IsBest}
use Rattle.bundle_rules.specs.Bundles.{sections_of}
use Rattle.bundle_bounds.specs.Offers.{offer_of}
use Rattle.proof_tree.proofs.Complete.{trees_prove_the_best}
use Rattle.proof_tree.proofs.building.build.Goals as goal

pub invariant_of-claim : goal.invariant_of-claim
invariant_of-claim c =
    let best : IsBest (wishes_of c.rows-menu.result.now) (price_in c.args.prices.now) c.args.budget.0 (set.contains c.args.allowed.now) (sections_of c.args.champion.now) =
    subst (λ m. IsBest (wishes_of m) (price_in c.args.prices.now) c.args.budget.0 (set.contains c.args.allowed.now) (sections_of c.args.champion.now)) (sym c.rows-menu.ensures)
    c.requires.best in
    record { on_menu = tt; takable = best.choice }

pub written-requires : goal.written-requires
written-requires c =
    let best : IsBest (wishes_of c.rows-menu.result.now) (price_in c.args.prices.now) c.args.budget.0 (set.contains c.args.allowed.now) (sections_of c.args.champion.now) =
    subst (λ m. IsBest (wishes_of m) (price_in c.args.prices.now) c.args.budget.0 (set.contains c.args.allowed.now) (sections_of c.args.champion.now)) (sym c.rows-menu.ensures)
    c.requires.best in
    (trees_prove_the_best (offer_of c.rows-menu.result.now c.args.prices.now c.args.budget.0 c.args.allowed.now) (sections_of c.args.champion.now) c.len.ensures.menu
    best.choice).1
    best
