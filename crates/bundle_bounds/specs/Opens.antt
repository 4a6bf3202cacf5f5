-- A node of the search: the places below k are decided, and those of the list are chosen. What is
-- open there?
use Rattle.std.specs.Prelude.{ℕ, zero, suc, ◌+◌, ◌-◌, ℤ, pos, negsuc, ◌+ℤ◌, ◌&&◌, ◌==◌, not, if◌then◌else◌, nat_le, Bool, List, [], ◌∷◌, length, filter}
use Rattle.std.specs.List.{list_all}
use Rattle.market_units.specs.Totals.{total, signed_total}
use Rattle.bundle_rules.specs.declared.menu.Rated.{Rated}
use Rattle.bundle_rules.specs.Menus.{adjustment_in, clash_in, course_at, rating_at, credits_at}
use Rattle.bundle_bounds.specs.Offers.{OfferData, price_at, allowed_at}
use Rattle.bundle_bounds.specs.declared.prospects.Prospect.{Prospect}
use Rattle.bundle_bounds.specs.declared.prospects.Resource.{Resource}
use Rattle.bundle_bounds.specs.declared.prospects.Resource.TheVariants.{Money, Credits, Count}

-- what the chosen places leave of the budget, of the credit cap and of the course cap
abbrev pub budget_left : OfferData → List ℕ → ℕ
budget_left offer chosen = offer.budget - total (price_at offer) chosen

abbrev pub credits_left : OfferData → List ℕ → ℕ
credits_left offer chosen = offer.menu.credits - total (credits_at offer.menu.places) chosen

abbrev pub courses_left : OfferData → List ℕ → ℕ
courses_left offer chosen = offer.menu.courses - length chosen

abbrev pub left_of : OfferData → List ℕ → Resource → ℕ
left_of offer chosen Money = budget_left offer chosen
left_of offer chosen Credits = credits_left offer chosen
left_of offer chosen Count = courses_left offer chosen

-- a place that clashes with none of the chosen ones
abbrev pub is_apart : OfferData → List ℕ → ℕ → Bool
is_apart offer chosen place =
    list_all (λ other. not (clash_in offer.menu.clashes place other)) chosen

-- an undecided place is open: allowed, apart from the chosen ones, and within what they leave
abbrev pub is_open : OfferData → List ℕ → ℕ → Bool
is_open offer chosen place =
    allowed_at offer place
    && (is_apart offer chosen place
    && (nat_le (price_at offer place) (budget_left offer chosen)
    && (nat_le (credits_at offer.menu.places place) (credits_left offer chosen)
    && nat_le 1 (courses_left offer chosen))))

-- the open ones of this many places from a place on, ascending
abbrev pub opens_from : OfferData → List ℕ → ℕ → ℕ → List ℕ
opens_from offer chosen place zero = []
opens_from offer chosen place (suc count) =
    if is_open offer chosen place then place ∷ opens_from offer chosen (place + 1) count
    else opens_from offer chosen (place + 1) count

-- the open places of a node
abbrev pub open_places : OfferData → ℕ → List ℕ → List ℕ
open_places offer k chosen = opens_from offer chosen k (length offer.menu.places - k)

-- a signed number, or 0 where it is negative
abbrev pub above_zero : ℤ → ℕ
above_zero (pos n) = n
above_zero (negsuc n) = 0

-- the first place of a course, by which courses are told apart
abbrev pub first_of_course : List Rated → ℕ → ℕ
first_of_course [] course = 0
first_of_course (rated ∷ more) course =
    if rated.course == course then 0 else suc (first_of_course more course)

-- what a place adds to the utility of the chosen ones
abbrev pub addition : OfferData → List ℕ → ℕ → ℤ
addition offer chosen place =
    pos (rating_at offer.menu.places place)
    +ℤ signed_total (λ other. adjustment_in offer.menu.pairs other place) chosen

-- the positive adjustments of a place with later ones
abbrev pub hopes : OfferData → ℕ → List ℕ → ℕ
hopes offer place later =
    total (λ other. above_zero (adjustment_in offer.menu.pairs place other)) later

-- the most that an open place adds, where these are the open ones after it
abbrev pub weight : OfferData → List ℕ → ℕ → List ℕ → ℤ
weight offer chosen place later = addition offer chosen place +ℤ pos (hopes offer place later)

abbrev pub prospect : OfferData → List ℕ → ℕ → List ℕ → Prospect
prospect offer chosen place later = record {
  place = place;
  course = first_of_course offer.menu.places (course_at offer.menu.places place);
  worth = above_zero (weight offer chosen place later);
  price = price_at offer place;
  credits = credits_at offer.menu.places place;
}

-- what is known of open places
abbrev pub prospects : OfferData → List ℕ → List ℕ → List Prospect
prospects offer chosen [] = []
prospects offer chosen (place ∷ later) =
    prospect offer chosen place later ∷ prospects offer chosen later

-- what is known of those of these places that are open
abbrev pub open_among : OfferData → List ℕ → List ℕ → List Prospect
open_among offer chosen places = prospects offer chosen (filter (is_open offer chosen) places)
