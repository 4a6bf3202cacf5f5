-- What is known of every prospect: how great its numbers are at most, and that it is on the menu.
use Rattle.std.specs.Prelude.{◌<◌, ◌≤◌, List, length, All}
use Rattle.market_units.specs.declared.limits.TheConstants.{MAX_PRICE, MAX_RATINGS}
use Rattle.bundle_rules.specs.Menus.{MenuData}
use Rattle.bundle_bounds.specs.declared.prospects.Prospect.{Prospect}

pub record IsModest (p : Prospect) : Type 0 where
  pub course_low : p.course < MAX_RATINGS
  pub worth_low : p.worth ≤ 20000
  pub price_low : p.price ≤ MAX_PRICE

-- each of these is at a place of the menu
abbrev pub AreOn : MenuData → List Prospect → Type 0
AreOn menu ps = All (λ p. p.place < length menu.places) ps
