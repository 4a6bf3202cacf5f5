use Rattle.std.proofs.Common.{◌≡◌, subst}
use Rattle.std.specs.Prelude.{IfNone, IfSome}
use Rattle.bundle_rules.specs.Bundles.{sections_of}
use Rattle.bundle_rules.specs.Menus.{MenuData}
use Rattle.bundle_bounds.specs.Ahead.{first_pruning}
use Rattle.bundle_bounds.specs.Bounds.{bounds, IsFirstPruning, NonePrunes}
use Rattle.bundle_bounds.specs.Offers.{OfferData, offer_of, places_of}
use Rattle.bundle_bounds.proofs.nodes.bound_closes.Goals as goal

pub returns-clause-first : goal.returns-clause-first
returns-clause-first c =
    let offer : MenuData → OfferData = λ m. offer_of m c.args.prices.now c.args.budget.0 c.args.allowed.now in
    let k = c.args.node.now.place in
    subst
    (λ m. IfSome c.bound_closes_in.result
    (IsFirstPruning (offer m) k (places_of m (sections_of c.args.node.now.chosen)) (places_of m (sections_of c.args.champion.now))
    (bounds (offer m) k (places_of m (sections_of c.args.node.now.chosen)))))
    c.rows.ensures c.bound_closes_in.ensures.first

pub returns-clause-value : goal.returns-clause-value
returns-clause-value c =
    let offer : MenuData → OfferData = λ m. offer_of m c.args.prices.now c.args.budget.0 c.args.allowed.now in
    subst
    (λ m. c.bound_closes_in.result
    ≡ first_pruning (offer m) c.args.node.now.place (places_of m (sections_of c.args.node.now.chosen)) (places_of m (sections_of c.args.champion.now)))
    c.rows.ensures c.bound_closes_in.ensures.value

pub returns-clause-none : goal.returns-clause-none
returns-clause-none c =
    let offer : MenuData → OfferData = λ m. offer_of m c.args.prices.now c.args.budget.0 c.args.allowed.now in
    let k = c.args.node.now.place in
    subst
    (λ m. IfNone c.bound_closes_in.result
    (NonePrunes (offer m) k (places_of m (sections_of c.args.node.now.chosen)) (places_of m (sections_of c.args.champion.now))
    (bounds (offer m) k (places_of m (sections_of c.args.node.now.chosen)))))
    c.rows.ensures c.bound_closes_in.ensures.none
