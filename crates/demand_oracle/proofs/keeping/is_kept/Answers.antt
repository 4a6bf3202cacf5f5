use Rattle.std.proofs.Common.{All, map, ◌∷◌, [], refl, sym, subst, inl, inr, ◌∙◌}
use Rattle.std.proofs.lemmas.Bool.{true≢false}
use Rattle.demand_oracle.specs.Bests.{IsAmong}
use Rattle.demand_oracle.specs.Champions.{nodes_of}
use Rattle.demand_oracle.specs.Questions.{offer_asked}
use Rattle.demand_oracle.specs.SummedNodes.{chosen_of, IsSummedOf}
use Rattle.demand_oracle.proofs.Inserting.{champions_summed}
use Rattle.demand_oracle.proofs.InOrder.{among_front, among_back, among_either}
use Rattle.demand_oracle.proofs.keeping.is_kept.Goals as goal

pub returns-then-are_same : goal.returns-then-are_same
returns-then-are_same c = (λ yes_. among_back (chosen_of c.args.summed.now) (map chosen_of (nodes_of c.args.leaders.now.leading)) (chosen_of c.args.leaders.now.champion ∷ []) (inl (c.are_same.ensures.0 c.if-are_same.true)), λ among. refl)

pub is_one_of-requires-clause-nodes : goal.is_one_of-requires-clause-nodes
is_one_of-requires-clause-nodes c =
    let offer = offer_asked c.args.question.now in
    subst (All (IsSummedOf offer)) (sym c.as_slice.ensures)
    (champions_summed offer (nodes_of c.args.leaders.now.leading) c.requires.leaders.leading)

pub returns : goal.returns
returns c = (
  λ yes_. among_front (chosen_of c.args.summed.now) (map chosen_of (nodes_of c.args.leaders.now.leading)) (chosen_of c.args.leaders.now.champion ∷ []) (subst (λ ns. IsAmong (chosen_of c.args.summed.now) (map chosen_of ns)) c.as_slice.ensures (c.is_one_of.ensures.0 yes_)),
  λ among. elim (among_either (chosen_of c.args.summed.now) (map chosen_of (nodes_of c.args.leaders.now.leading)) (chosen_of c.args.leaders.now.champion ∷ []) among) [
    | inl before ↦ c.is_one_of.ensures.1 (subst (λ ns. IsAmong (chosen_of c.args.summed.now) (map chosen_of ns)) (sym c.as_slice.ensures) before)
    | inr (inl same) ↦ absurd (true≢false (sym (c.are_same.ensures.1 same) ∙ c.if-are_same.false))
    | inr (inr none) ↦ absurd none
  ],
)
