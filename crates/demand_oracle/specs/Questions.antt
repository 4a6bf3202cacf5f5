-- What is asked in one search, with what is looked up while it is answered.
use Rattle.std.specs.Prelude.{◌<◌, length, IfSome}
use Rattle.bundle_rules.specs.Menus.{IsMenu}
use Rattle.bundle_bounds.specs.Offers.{OfferData}
use Rattle.bundle_bounds.specs.Views.{data_of}
use Rattle.demand_oracle.specs.declared.question.Question.{Question}
use Rattle.demand_oracle.specs.Reaches.{IsReach}
use Rattle.demand_oracle.specs.AtPlaces.{IsGoods}
use Rattle.demand_oracle.specs.Search.{Aim, aim_by}
use Rattle.demand_oracle.specs.Names.{HoldsNames}

-- the offer of which it is asked
abbrev pub offer_asked : Question → OfferData
offer_asked question = data_of question.offer.now

-- which bundles are asked for, and what their sections are called
abbrev pub aim_of : Question → Aim
aim_of question = aim_by (offer_asked question).menu question.given question.names.now

-- a given place is on the menu, and the reach, the goods and the names are those of the offer
pub record IsQuestion (question : Question) : Type 0 where
  pub menu : IsMenu (offer_asked question).menu
  pub given : IfSome question.given (λ place. place < length (offer_asked question).menu.places)
  pub reach : IsReach (offer_asked question) question.reach.now
  pub goods : IsGoods (offer_asked question) question.goods.now
  pub names : HoldsNames (offer_asked question).menu question.names.now
