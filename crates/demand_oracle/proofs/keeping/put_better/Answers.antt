use Rattle.demand_oracle.specs.Champions.{kept_of, nodes_of}
use Rattle.demand_oracle.specs.Names.{name_of}
use Rattle.demand_oracle.specs.Questions.{offer_asked, aim_of}
use Rattle.demand_oracle.specs.SummedNodes.{chosen_of}
use Rattle.demand_oracle.proofs.Inserting.{put_nothing, beaten_listed}
use Rattle.demand_oracle.proofs.keeping.put_better.Goals as goal

pub returns-then-is_beaten-clause-put : goal.returns-then-is_beaten-clause-put
returns-then-is_beaten-clause-put c =
    let leaders = c.args.leaders.now in
    let offer = offer_asked c.args.question.now in
    let beaten = c.is_beaten.ensures.beaten c.if-is_beaten.true in
    put_nothing offer (aim_of c.args.question.now) (chosen_of c.args.summed.now) (kept_of leaders)
    (λ yes_. beaten_listed offer (name_of c.args.question.now.names.now) c.requires.question.names.apart c.args.summed.now
    (record { takable = c.requires.node.takable; sums = c.requires.summed }) (nodes_of leaders.leading) leaders.champion leaders.most
    c.requires.leaders.champion beaten.0 beaten.1)
