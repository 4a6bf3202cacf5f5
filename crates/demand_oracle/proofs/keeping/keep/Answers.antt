use Rattle.std.proofs.Common.{◌≡◌, ◌≤◌, ◌++◌, ◌∷◌, All, drop, length, take, sym, subst, ap, arith}
use Rattle.demand_oracle.specs.Champions.{IsChampion, nodes_of}
use Rattle.bundle_rules.specs.Menus.{wishes_of}
use Rattle.demand_oracle.specs.Inserting.{IsInserted}
use Rattle.demand_oracle.specs.Names.{IsPreferredByName, name_of}
use Rattle.demand_oracle.specs.Questions.{offer_asked, aim_of}
use Rattle.demand_oracle.specs.SummedNodes.{chosen_of, IsSummedOf}
use Rattle.demand_oracle.proofs.Inserting.{AreKeptOn, keeps_either, left_are, champions_summed}
use Rattle.demand_oracle.proofs.keeping.keep.Goals as goal
use Rattle.demand_oracle.proofs.keeping.keep.Goals.{After-put-leaders}

pub place_among-at-requires-clause-nodes : goal.place_among-at-requires-clause-nodes
place_among-at-requires-clause-nodes c =
    let leaders = c.args.leaders.now in
    let offer = offer_asked c.args.question.now in
    subst (All (IsSummedOf offer)) (sym c.as_slice.ensures)
    (champions_summed offer _
    (left_are offer (nodes_of leaders.leading) leaders.champion leaders.most _ c.requires.leaders.leading c.requires.leaders.champion
    c.make_room.ensures.fewer c.make_room.ensures.all))

pub put-leaders-requires : goal.put-leaders-requires
put-leaders-requires c =
    let same = ap length c.as_slice.ensures in
    let within : c.place_among-at.result ≤ length c.as_slice.result.now = c.place_among-at.ensures.within in omega (arith, within, same)

on : (c : After-put-leaders) → AreKeptOn (offer_asked c.args.question.now) (aim_of c.args.question.now) c.args.summed.now
    (nodes_of c.args.leaders.now.leading) (nodes_of c.put-leaders.new.self) c.args.leaders.now.champion c.put-leaders.result c.args.leaders.now.most
on c =
    let leaders = c.args.leaders.now in
    let node : IsChampion (offer_asked c.args.question.now) c.args.summed.now =
    record { takable = c.requires.node.takable; sums = c.requires.summed } in
    let left = nodes_of c.make_room.new.leaders.leading in
    let put = take c.place_among-at.result left ++ c.args.summed.now ∷ drop c.place_among-at.result left in
    keeps_either (offer_asked c.args.question.now) (aim_of c.args.question.now) c.requires.question.names.apart c.args.summed.now node c.requires.is_wanted
    (nodes_of leaders.leading) leaders.champion leaders.most c.requires.leaders.leading c.requires.leaders.champion c.requires.leaders.in_order
    c.requires.leaders.few c.requires.apart put (nodes_of c.put-leaders.new.self) c.put-leaders.result (sym c.put-leaders.ensures)
    left c.make_room.ensures.fewer c.make_room.ensures.all c.requires.better
    (subst (λ ns. IsInserted (λ a b. IsPreferredByName (name_of c.args.question.now.names.now) (wishes_of c.args.question.now.offer.now.menu.now) (chosen_of a) (chosen_of b)) c.args.summed.now ns (take c.place_among-at.result ns ++ c.args.summed.now ∷ drop c.place_among-at.result ns)) c.as_slice.ensures c.place_among-at.ensures.inserted)

pub returns-clause-leaders : goal.returns-clause-leaders
returns-clause-leaders c =
    let kept = on (goal.at.returns-clause-leaders c).After-put-leaders in
    let same : c.make_room.new.leaders.most ≡ c.args.leaders.now.most = c.make_room.ensures.most in
    record {
      champion = kept.last_is;
      leading = kept.after_are;
      in_order = kept.in_order;
      few = omega (arith, same, kept.few);
    }

pub returns-clause-put : goal.returns-clause-put
returns-clause-put c = rw c.make_room.ensures.most (on (goal.at.returns-clause-put c).After-put-leaders).put
