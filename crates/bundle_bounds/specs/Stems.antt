-- Nodes that have chosen the same sections: what is kept of them.
use Rattle.std.specs.Prelude.{ℕ, ◌<◌, ◌≤◌, ◌*◌, ℤ, pos, neg_ℤ, ◌*ℤ◌, ◌≤ℤ◌, ◌≡◌, true, List, length, take, drop, All}
use Rattle.market_units.specs.declared.limits.TheConstants.{MAX_COURSES, MAX_RATINGS}
use Rattle.bundle_rules.specs.Ahead.{is_ahead}
use Rattle.bundle_rules.specs.Wishes.{utility}
use Rattle.bundle_rules.specs.Menus.{by_place, wishes_of}
use Rattle.bundle_rules.specs.PlaceLists.{listed}
use Rattle.bundle_bounds.specs.declared.prospects.Prospect.{Prospect}
use Rattle.bundle_rules.specs.declared.place_list.Places.{Places}
use Rattle.bundle_bounds.specs.declared.opens.Rests.{Rests}
use Rattle.bundle_bounds.specs.declared.stems.Stem.{Stem}
use Rattle.bundle_bounds.specs.declared.tangents.Tangents.{Tangents}
use Rattle.bundle_bounds.specs.Offers.{OfferData, places_of}
use Rattle.bundle_bounds.specs.Opens.{budget_left, credits_left, courses_left, open_places, prospects}
use Rattle.bundle_bounds.specs.Bounds.{all_bounds}
use Rattle.bundle_bounds.specs.Courses.{by_course}
use Rattle.bundle_bounds.specs.Ahead.{limit_of}
use Rattle.bundle_bounds.specs.Limits.{NoneBelow}
use Rattle.bundle_bounds.specs.Modest.{IsModest}
use Rattle.bundle_bounds.specs.Tangents.{AreTangents}

-- it is for this champion and these chosen sections: their places, their utility, and what they
-- leave
pub record HasChosen (offer : OfferData) (champion chosen : List ℕ) (champions : Places) (most : ℤ)
    (places : List ℕ) (count : ℕ) (so_far : ℤ) (rests : Rests) : Type 0 where
  pub champion_is : listed champions ≡ places_of offer.menu champion
  pub most_is : most ≡ utility (wishes_of offer.menu) champion
  pub whole : length places ≡ MAX_COURSES
  pub few : count ≤ MAX_COURSES
  pub chosen_is : take count places ≡ places_of offer.menu chosen
  pub utility_is : so_far ≡ utility (by_place offer.menu) (places_of offer.menu chosen)
  pub low : neg_ℤ (pos (2000 * count)) ≤ℤ so_far
  pub high : so_far ≤ℤ pos (2000 * count)
  pub budget_is : rests.budget ≡ budget_left offer (places_of offer.menu chosen)
  pub credits_is : rests.credits ≡ credits_left offer (places_of offer.menu chosen)
  pub courses_is : rests.courses ≡ courses_left offer (places_of offer.menu chosen)

-- the room keeps these open places from here on, with what the bounds are made of
pub record Keeps (offer : OfferData) (open_ones : List Prospect) (rests : Rests)
    (room : List Prospect)
    (start plain : ℕ) (tangents : Tangents) : Type 0 where
  pub whole : length room ≡ MAX_RATINGS
  pub within : start ≤ MAX_RATINGS
  pub kept_is : drop start room ≡ open_ones
  pub modest : All IsModest (drop start room)
  pub on_menu : All (λ p. p.place < length offer.menu.places) (drop start room)
  pub plain_is : plain ≡ by_course (λ p. 1000 * p.worth) (drop start room)
  pub small : plain ≤ 1200000000
  pub tangents_are : AreTangents rests.budget rests.credits rests.courses (drop start room) tangents

-- no bound prunes where these are the open places
abbrev pub IsQuiet : ℤ → ℤ → Rests → List Prospect → Type 0
IsQuiet limit so_far rests open_ones =
    NoneBelow limit
    (all_bounds (pos 1000 *ℤ so_far) rests.budget rests.credits rests.courses open_ones)

-- the open places of a node, where these places are chosen
abbrev pub open_ones_at : OfferData → ℕ → List ℕ → List Prospect
open_ones_at offer k places = prospects offer places (open_places offer k places)

-- it is at the node with these decided places and these chosen sections, for this champion; where
-- it is quiet no bound prunes that
pub record IsStem (offer : OfferData) (champion : List ℕ) (k : ℕ) (chosen : List ℕ)
    (stem : Stem) : Type 0 where
  pub has_chosen : HasChosen offer champion chosen stem.champion stem.most stem.chosen stem.count
      stem.utility stem.rests
  pub limit_is : stem.limit
      ≡ limit_of stem.most
      (is_ahead k (places_of offer.menu champion) (places_of offer.menu chosen))
  pub keeps : Keeps offer (open_ones_at offer k (places_of offer.menu chosen)) stem.rests stem.room
      stem.start stem.plain stem.tangents
  pub quiet : stem.is_quiet ≡ true
      → IsQuiet stem.limit stem.utility stem.rests (drop stem.start stem.room)
