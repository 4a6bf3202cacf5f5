-- What a node with its sums knows.
use Rattle.std.specs.Prelude.{ℕ, ◌*◌, ◌≤◌, ◌<◌, ◌≡◌, ◌↔◌, ℤ, pos, neg_ℤ, ◌≤ℤ◌, true, List, [], ◌∷◌, ◌++◌, length, take}
use Rattle.std.specs.Int.{bit_at}
use Rattle.market_units.specs.declared.limits.TheConstants.{MAX_PRICE, MAX_SECTION_CREDITS}
use Rattle.market_units.specs.Totals.{total}
use Rattle.market_units.specs.Members.{has}
use Rattle.bundle_rules.specs.Bundles.{sections_of}
use Rattle.bundle_rules.specs.Wishes.{AllRated, utility}
use Rattle.bundle_rules.specs.Menus.{MenuData, wishes_of, place_in, section_at}
use Rattle.bundle_bounds.specs.Offers.{OfferData, places_of}
use Rattle.demand_oracle.specs.declared.summed_node.SummedNode.{SummedNode}

-- the sections that a node has chosen
abbrev pub chosen_of : SummedNode → List ℕ
chosen_of summed = sections_of summed.node.chosen

-- the chosen sections with that of a place
abbrev pub with_place_of : MenuData → SummedNode → ℕ → List ℕ
with_place_of menu summed place = chosen_of summed ++ section_at menu.places place ∷ []

-- sums of so many sections are small: a price is at most 1,000,001, credits are at most 100, and a
-- rating with eight adjustments is at most 1,700
pub record AreSmallSums (count paid credits : ℕ) (utility : ℤ) : Type 0 where
  pub paid_high : paid ≤ MAX_PRICE * count
  pub credits_high : credits ≤ MAX_SECTION_CREDITS * count
  pub utility_low : neg_ℤ (pos (1700 * count)) ≤ℤ utility
  pub utility_high : utility ≤ℤ pos (1700 * count)

-- The chosen sections of the node are rated and decided; it keeps their places, also as bits of a
-- word, and their price, credits and utility at these prices. It also keeps that these sums are
-- small, which follows from the rest, so that callers need not prove it. Callers need not look
-- inside: `root` and `with_place` give it.
pub record IsSummed (menu : MenuData) (price : ℕ → ℕ) (summed : SummedNode) : Type 0 where
  pub rated : AllRated (wishes_of menu) (chosen_of summed)
  pub decided : (s : ℕ) → has (chosen_of summed) s ≡ true
      → place_in menu.places s < summed.node.place
  pub places : take (length (chosen_of summed)) summed.places ≡ places_of menu (chosen_of summed)
  pub word : (p : ℕ) → (bit_at summed.word p ≡ 1)
      ↔ (has (places_of menu (chosen_of summed)) p ≡ true)
  pub paid : summed.paid ≡ total price (chosen_of summed)
  pub credits : summed.credits ≡ total (wishes_of menu).credits (chosen_of summed)
  pub utility : summed.utility ≡ utility (wishes_of menu) (chosen_of summed)
  pub small : AreSmallSums (length (chosen_of summed)) summed.paid summed.credits summed.utility

-- the node keeps its sums at the prices of an offer
abbrev pub IsSummedOf : OfferData → SummedNode → Type 0
IsSummedOf offer summed = IsSummed offer.menu offer.price summed
