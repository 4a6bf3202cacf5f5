use Rattle.std.proofs.Common.{◌≡◌, ◌≤◌, true, sym, subst, arith}
use Rattle.plain_facts.proofs.Outcomes.{if_none}
use Rattle.bundle_rules.specs.Demand.{price_in}
use Rattle.bundle_bounds.specs.Views.{data_of}
use Rattle.bundle_bounds.specs.Laws.{IsTakable}
use Rattle.demand_oracle.specs.Champions.{IsChampion}
use Rattle.demand_oracle.specs.Names.{name_of}
use Rattle.demand_oracle.specs.SummedNodes.{chosen_of}
use Rattle.demand_oracle.specs.Search.{aim_by, wanted_by}
use Rattle.demand_oracle.proofs.Inserting.{leaders_begun, each_begun}
use Rattle.demand_oracle.proofs.Searching.{lead_aim, wanted_at_end}
use Rattle.demand_oracle.proofs.oracle.found.Goals as goal

pub below-frames-requires-clause-question : goal.below-frames-requires-clause-question
below-frames-requires-clause-question c =
    record {
      menu = c.of-goods.ensures.menu;
      given = c.args.asked.now.on_menu;
      reach = c.measure.ensures;
      goods = c.of-goods.ensures.goods;
      names = c.requires.names;
    }

pub below-frames-requires-clause-summed : goal.below-frames-requires-clause-summed
below-frames-requires-clause-summed c = c.root.ensures.summed c.args.asked.now.offer.now.menu.now (price_in c.args.asked.now.offer.now.prices.now)

pub below-frames-requires-clause-leaders : goal.below-frames-requires-clause-leaders
below-frames-requires-clause-leaders c =
    let begun = c.begun-leaders.ensures in
    let offer = data_of c.args.asked.now.offer.now in
    leaders_begun offer (name_of c.args.names.now) c.begun-leaders.result begun.none
    (subst (IsChampion offer) (sym begun.champion) c.first_champion-champion.ensures.champion) (subst (λ n. 1 ≤ n) (sym begun.most) c.requires.most.0)

pub returns-clause-few : goal.returns-clause-few
returns-clause-few c =
    let few = c.below-frames.ensures.leaders.few in
    let most : c.below-frames.new.leaders.most ≤ 8 = c.below-frames.new.leaders.within in omega (arith, few, most)

pub returns-clause-leads : goal.returns-clause-leads
returns-clause-leads c =
    let begun = c.begun-leaders.ensures in
    let offer = data_of c.args.asked.now.offer.now in
    lead_aim offer c.of-goods.ensures.menu (aim_by c.args.asked.now.offer.now.menu.now c.args.asked.now.given c.args.names.now) _ _
    (each_begun c.begun-leaders.result begun.none (IsTakable offer)
    (subst (λ n. IsTakable offer (chosen_of n)) (sym begun.champion) c.first_champion-champion.ensures.champion.takable))
    c.below-frames.ensures.leaders.in_order (rw (c.root.ensures.place, c.root.ensures.chosen) at c.below-frames.ensures.searched)

pub returns-clause-wanted : goal.returns-clause-wanted
returns-clause-wanted c =
    let begun = c.begun-leaders.ensures in
    let wanted = wanted_by c.args.asked.now.offer.now.menu.now c.args.asked.now.given in
    if_none c.args.first
    (λ fits. wanted_at_end (data_of c.args.asked.now.offer.now) c.of-goods.ensures.menu
    (aim_by c.args.asked.now.offer.now.menu.now c.args.asked.now.given c.args.names.now) _ _
    (each_begun c.begun-leaders.result begun.none (λ bundle. wanted bundle ≡ true)
    (subst (λ n. wanted (chosen_of n) ≡ true) (sym begun.champion) fits))
    (rw (c.root.ensures.place, c.root.ensures.chosen) at c.below-frames.ensures.searched))
    c.first_champion-champion.ensures.wanted
