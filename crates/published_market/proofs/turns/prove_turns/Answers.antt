use Rattle.std.proofs.Common.{◌∙◌, sym}
use Rattle.std.proofs.lemmas.List.{length-map}
use Rattle.std.proofs.lemmas.List.Elements.{All-map}
use Rattle.demand_api.specs.Views.{data_of}
use Rattle.aftermarket_stage.specs.After.{turn_of, turns_of}
use Rattle.aftermarket_stage.proofs.Crowding.{if_both}
use Rattle.market_certificate.specs.Views.{turn_of as published_of}
use Rattle.published_market.specs.Making.{HasTurnForm}
use Rattle.published_market.specs.Turns.{IsPublishedTurn, no_turn}
use Rattle.published_market.proofs.Rooming.{shown_beside}
use Rattle.published_market.proofs.turns.prove_turns.Goals as goal

pub returns-clause-published : goal.returns-clause-published
returns-clause-published g c =
    if_both c.prove_all.result _ _ _
    (λ all count shown.
    shown_beside (IsPublishedTurn (data_of c.args.crowd.now) c.args.prices.now c.args.raise) published_of (turns_of c.args.turns.now) no_turn all.items
    (count ∙ sym (length-map c.args.turns.now turn_of)) (λ k one low. (shown k one low).published))
    c.prove_all.ensures.count c.prove_all.ensures.shown

pub returns-clause-form : goal.returns-clause-form
returns-clause-form g c =
    if_both c.prove_all.result _ _ _ (λ all count shown. All-map HasTurnForm published_of all.items (λ k one low. (shown k one low).form))
    c.prove_all.ensures.count c.prove_all.ensures.shown
