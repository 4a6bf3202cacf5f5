use Rattle.std.proofs.Common.{refl, ◌≡◌, ◌<◌, ◌≤◌, arith, length, rules, vec_len}
use Rattle.demand_api.proofs.Parts.{menus_few}
use Rattle.certificate_checker.proofs.Bundling.{IsRead, infeasible, priced_bundle, right_bundle, takable, unaffordable, wrong_tree}
use Rattle.certificate_checker.proofs.Reading.{HasLengths, denied, lengths}
use Rattle.certificate_checker.proofs.TurnReading.{menu_priced}
use Rattle.certificate_checker.proofs.bundles.check_bundle.Goals as goal
use Rattle.certificate_checker.proofs.bundles.check_bundle.Goals.{After-index-proved}

-- the bundle as it is read
read : (c : After-index-proved)
    → IsRead c.args.printed.now.terms.now c.args.printed.now.publication.now c.args.student c.index-menu.result.now c.index-budget.result.now c.as_slice-prices.result.now
    c.args.all.now c.index-proved.result.now
read c = record {
  can = c.args.printed.now.can;
  student = c.requires.student;
  menu = c.index-menu.ensures;
  budget = c.index-budget.ensures;
  prices_are = c.as_slice-prices.ensures.value;
  told = c.requires.all;
  printed = c.index-proved.ensures;
}

pub index-proved-requires : goal.index-proved-requires
index-proved-requires c =
    let publication = c.args.printed.now.publication.now in
    let long : HasLengths c.args.printed.now.terms.now publication = lengths c.args.printed.now.terms.now publication c.args.printed.now.can in
    let low : c.args.student < length c.args.printed.now.terms.now.crowd.menus.items = c.requires.student in
    let inside : c.args.student < length publication.bundles.items = omega arith in
    let whole : vec_len publication.bundles ≡ length publication.bundles.items = publication.bundles.ok.0 in
    omega arith

pub is_affordable-requires : goal.is_affordable-requires
is_affordable-requires c =
    priced_bundle _ _ _ _ _ _ _ _ (read (goal.at.is_affordable-requires c).After-index-proved)

pub returns-then-not-is_affordable-clause-wrong : goal.returns-then-not-is_affordable-clause-wrong
returns-then-not-is_affordable-clause-wrong c =
    unaffordable _ _ _ _ _ _ _ _ (read (goal.at.returns-then-not-is_affordable-clause-wrong c).After-index-proved)
    (denied c.is_affordable.result c.is_affordable.ensures c.if-not-is_affordable.true)

pub returns-then-not-feasible-clause-wrong : goal.returns-then-not-feasible-clause-wrong
returns-then-not-feasible-clause-wrong c =
    infeasible _ _ _ _ _ _ _ _ (read (goal.at.returns-then-not-feasible-clause-wrong c).After-index-proved)
    (c.is_affordable.ensures.0 c.if-not-is_affordable.false) (denied c.feasible.result c.feasible.ensures c.if-not-feasible.true)

pub check_tree-requires-clause-champion : goal.check_tree-requires-clause-champion
check_tree-requires-clause-champion c =
    takable _ _ _ _ _ _ _ _ (read (goal.at.check_tree-requires-clause-champion c).After-index-proved) (c.feasible.ensures.0 c.if-not-feasible.false)
    (c.is_affordable.ensures.0 c.if-not-is_affordable.false)

pub check_tree-requires-clause-prices : goal.check_tree-requires-clause-prices
check_tree-requires-clause-prices c =
    menu_priced c.args.printed.now.terms.now c.args.printed.now.publication.now c.args.student c.index-menu.result.now c.as_slice-prices.result.now c.args.printed.now.can
    c.requires.student refl c.index-menu.ensures c.as_slice-prices.ensures.value

pub returns-in-Ok-clause-ok : goal.returns-in-Ok-clause-ok
returns-in-Ok-clause-ok c =
    right_bundle _ _ _ _ _ _ _ _ (read (goal.at.returns-in-Ok-clause-ok c).After-index-proved) c.deref.result.now c.deref.ensures.value
    (c.is_affordable.ensures.0 c.if-not-is_affordable.false) (c.feasible.ensures.0 c.if-not-feasible.false) (c.in-Ok.ensures.ok.0 refl).1

pub returns-in-Err-clause-wrong : goal.returns-in-Err-clause-wrong
returns-in-Err-clause-wrong c =
    wrong_tree _ _ _ _ _ _ _ _ (read (goal.at.returns-in-Err-clause-wrong c).After-index-proved) c.deref.result.now c.in-Err.defect c.deref.ensures.value
    (c.is_affordable.ensures.0 c.if-not-is_affordable.false) (c.feasible.ensures.0 c.if-not-feasible.false) c.in-Err.ensures.defect

pub overflow_cast-number : goal.overflow_cast-number
overflow_cast-number c = let few : length c.args.printed.now.terms.now.crowd.menus.items ≤ 2000 = menus_few c.args.printed.now.terms.now.crowd in search rules
