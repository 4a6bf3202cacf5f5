-- What students are offered, and what they take of it, where trees of their bundles are written.
use Rattle.std.specs.Prelude.{ℕ, List, [], map, slice_index_or}
use Rattle.bundle_rules.specs.Bundles.{sections_of}
use Rattle.bundle_rules.specs.Demand.{price_in}
use Rattle.bundle_bounds.specs.Offers.{OfferData}
use Rattle.demand_api.specs.Views.{data_of}
use Rattle.aftermarket_stage.specs.After.{turns_of}
use Rattle.aftermarket_stage.specs.Turns.{TurnData}
use Rattle.published_parts.specs.Offers.{all_sections, offer_to, student_in}
use Rattle.published_market.specs.declared.chosen.Chosen.{Chosen}
use Rattle.published_market.specs.declared.taken.Taken.{Taken}
use Rattle.published_market.specs.Turns.{no_turn, offer_for}

-- what is offered to the student of a number at these prices
abbrev pub offer_taken : Taken → ℕ → OfferData
offer_taken taken place =
    let crowd = data_of taken.crowd.now in
    let student = student_in crowd place in
    offer_to student (price_in taken.prices.now) student.budget (all_sections crowd.sections)

-- what the student of a number takes of that offer
abbrev pub bundle_taken : Taken → ℕ → List ℕ
bundle_taken taken place = slice_index_or (map sections_of taken.bundles.now) place []

-- the turn of a number, from 0
abbrev pub turn_chosen : Chosen → ℕ → TurnData
turn_chosen chosen place = slice_index_or (turns_of chosen.turns.now) place no_turn

-- what is offered to its student at that turn
abbrev pub offer_chosen : Chosen → ℕ → OfferData
offer_chosen chosen place =
    offer_for (data_of chosen.crowd.now) chosen.prices.now chosen.raise (turn_chosen chosen place)
