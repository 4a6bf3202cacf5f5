-- Versions of prices that are a round.
use Rattle.std.proofs.Common.{◌≡◌, ◌≤◌, ◌∙◌, None, List, Vec, Global, All, length, slice_index_or, ap, sym, subst, arith}
use Rattle.std.proofs.lemmas.List.{length-map}
use Rattle.std.proofs.lemmas.List.Elements.{All-map}
use Rattle.market_units.specs.declared.units.Tokens.{Tokens}
use Rattle.demand_api.specs.declared.crowd.Crowd.{Crowd}
use Rattle.demand_api.specs.Crowds.{top}
use Rattle.demand_api.specs.Asking.{AreSectionPrices}
use Rattle.demand_api.specs.Views.{data_of}
use Rattle.demand_api.proofs.Parts.{top_high}
use Rattle.price_board.specs.declared.round.Ask.{Ask}
use Rattle.price_board.specs.Openings.{IsAskOf, IsRound}
use Rattle.demand_workers.specs.Rounds.{prices_of, AreVersionsFor}

-- versions for a crowd, and as many asks, are a round of it
pub versions_are_round : (crowd : Crowd) (versions copies : List (Vec Tokens Global)) (asks : List Ask)
    → AreVersionsFor (data_of crowd) versions
    → 1 ≤ length versions → length versions ≤ 16 → length asks ≡ length versions → All (IsAskOf crowd.sections) asks → prices_of copies ≡ prices_of versions
    → IsRound (record { crowd = data_of crowd; versions = prices_of copies; asks = asks; list = None })
versions_are_round crowd versions copies asks are some few many among same =
    let count : length (prices_of copies) ≡ length versions = ap length same ∙ length-map versions (λ (version : Vec Tokens Global). version.items) in
    let most : top (data_of crowd) ≤ 1000001 = top_high crowd in
    record {
      prices = subst (All (AreSectionPrices crowd.sections)) (sym same)
          (All-map (AreSectionPrices crowd.sections) (λ (version : Vec Tokens Global). version.items) versions (λ k d low. record {
            same = (are k d low).same;
            high =
                λ i e below. (let h : (slice_index_or (slice_index_or versions k d).items i e).0
                ≤ top (data_of crowd) = (are k d low).high i e below in let goal :
                (slice_index_or (slice_index_or versions k d).items i e).0
                ≤ 1000001 = omega arith in goal);
          }));
      sections = among;
      asked = (
        (let goal : 1 ≤ length (prices_of copies) = omega arith in goal),
        (let goal : length (prices_of copies) ≤ 16 = omega arith in goal),
        many ∙ sym count,
      );
    }
