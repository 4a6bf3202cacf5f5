use Rattle.preference_desk.specs.PreferencesView.{preferences_of}
use Rattle.market_crowd.proofs.CrowdFacts.{crowd_is_markets, crowd_is_whole, same}
use Rattle.market_crowd.proofs.making.make_crowd.Goals as goal

pub invariant_of-result : goal.invariant_of-result
invariant_of-result c = record {
  same = same c.args.catalog.now c.args.roll.now (preferences_of c.args.preferences.now) c.in_ok-menus.menus.items c.in_ok-budgets.budgets.items
      c.args.seed c.args.spread c.in_ok-menus.ensures c.in_ok-budgets.ensures.budgets;
  whole = rw c.len.ensures.count
      (crowd_is_whole c.args.catalog.now c.args.roll.now (preferences_of c.args.preferences.now) c.in_ok-menus.menus.items
      c.in_ok-budgets.budgets.items c.args.seed c.args.spread c.in_ok-menus.ensures c.in_ok-budgets.ensures.budgets
      c.len.ensures.kept c.len-few_students.ensures.roll c.requires.sections c.in_ok-budgets.ensures.range);
}

pub returns : goal.returns
returns c =
    rw c.len.ensures.count
    (crowd_is_markets c.args.catalog.now c.args.roll.now (preferences_of c.args.preferences.now) c.in_ok-menus.menus.items c.in_ok-budgets.budgets.items
    c.args.seed c.args.spread c.in_ok-menus.ensures c.in_ok-budgets.ensures.budgets)
