use Rattle.std.proofs.Common.{map, ◌∷◌, [], refl, inl, subst}
use Rattle.demand_oracle.specs.Bests.{IsAmong}
use Rattle.demand_oracle.specs.Champions.{nodes_of}
use Rattle.demand_oracle.specs.SummedNodes.{chosen_of}
use Rattle.demand_oracle.proofs.InOrder.{among_front, among_back}
use Rattle.demand_oracle.proofs.oracle.named_best.Goals as goal

pub named_behind-leading-requires-clause-rated : goal.named_behind-leading-requires-clause-rated
named_behind-leading-requires-clause-rated c bundle among =
    c.requires.rated bundle (among_front bundle (map chosen_of (nodes_of c.args.leaders.now.leading)) (chosen_of c.args.leaders.now.champion ∷ []) (subst (λ ns. IsAmong bundle (map chosen_of ns)) c.as_slice.ensures among))

pub named-requires : goal.named-requires
named-requires c = c.requires.rated (chosen_of c.args.leaders.now.champion) (among_back (chosen_of c.args.leaders.now.champion) (map chosen_of (nodes_of c.args.leaders.now.leading)) (chosen_of c.args.leaders.now.champion ∷ []) (inl refl))
