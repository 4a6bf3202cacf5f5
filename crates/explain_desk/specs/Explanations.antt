-- What a student is told of a section.
use Rattle.std.specs.Prelude.{ℕ, ◌≡◌, ◌<◌, ◌≤◌, All, List, Option, Some, IfSome, is_some, nat_lt}
use Rattle.market_units.specs.declared.limits.TheConstants.{MAX_SECTIONS}
use Rattle.market_units.specs.declared.units.Tokens.{Tokens}
use Rattle.bundle_rules.specs.Demand.{HasPrices, price_in}
use Rattle.bundle_rules.specs.Given.{IsBestWith}
use Rattle.bundle_rules.specs.Menus.{MenuData, place_in, wishes_of}
use Rattle.bundle_bounds.specs.Offers.{OfferData}
use Rattle.proof_tree.specs.Texts.{IsTreeText}
use Rattle.market_certificate.specs.Publications.{Proved}
use Rattle.explain_desk.specs.declared.reasons.Reason.{Reason}
use Rattle.explain_desk.specs.Reasons.{IsReason, tells_best}

-- all of so many sections, offered to a student with this menu and budget at these prices
abbrev pub offer_of_all : MenuData → List Tokens → ℕ → ℕ → OfferData
offer_of_all menu prices budget sections =
    record {
      menu = menu;
      price = price_in prices;
      budget = budget;
      allowed = λ s. nat_lt s
          sections;
    }

-- all of so many sections can be offered to a student with this menu at these prices: they are at
-- most 400, those of the menu are among them, and each of these has a price, of at most
-- 1,000,001
pub record CanBeOffered (menu : MenuData) (prices : List Tokens) (sections : ℕ) : Type 0 where
  pub priced : HasPrices menu prices
  pub few : sections ≤ MAX_SECTIONS
  pub within : All (λ rated. rated.section.0 < sections) menu.places

-- the best bundle with the section, and the text of its forced tree
pub record IsProvedWith (offer : OfferData) (section : ℕ) (proved : Proved) : Type 0 where
  pub best : IsBestWith (wishes_of offer.menu) offer.price offer.budget offer.allowed section
      proved.bundle
  pub tree : IsTreeText offer (Some (place_in offer.menu.places section)) proved.bundle proved.tree

-- a reason, and a bundle with its tree or none
pub record ExplainedData : Type 0 where
  pub reason : Reason
  pub best : Option Proved

-- the reason is the first that applies; a bundle is told exactly where the reason leaves one with
-- the section, and it is the best with it, with its forced tree
pub record IsExplained (offer : OfferData) (bundle : List ℕ) (section : ℕ)
    (explained : ExplainedData) : Type 0 where
  pub is_reason : IsReason (wishes_of offer.menu) offer.price offer.budget bundle section
      explained.reason
  pub is_best : IfSome explained.best (IsProvedWith offer section)
  pub told : is_some explained.best ≡ tells_best explained.reason
