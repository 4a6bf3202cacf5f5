use Rattle.demand_oracle.specs.Champions.{nodes_of}
use Rattle.demand_oracle.specs.Questions.{offer_asked, aim_of}
use Rattle.demand_oracle.specs.SummedNodes.{chosen_of}
use Rattle.demand_oracle.proofs.Inserting.{led_prunes}
use Rattle.demand_oracle.proofs.below.is_pruned.Goals as goal

pub returns : goal.returns
returns c from question column node later open_ yes_ =
    led_prunes (offer_asked c.args.question.now) (aim_of c.args.question.now) c.args.place (chosen_of c.args.summed.now)
    (nodes_of c.args.leaders.now.leading) c.args.leaders.now.champion c.args.leaders.now.most (c.is_full.ensures.0 c.if-not-is_full.false)
    (c.prunes.ensures from question column node later open_ c.requires.leaders.champion yes_)
