-- Bundles by their places on the menu.
use Rattle.std.proofs.Common.{◌≡◌, ℕ, ◌+◌, ◌<◌, Bool, true, false, List, [], ◌∷◌, length, map, refl, sym, ap, ◌∙◌, arith, inl, inr}
use Rattle.std.proofs.lemmas.Bool.{false≢true}
use Rattle.std.proofs.lemmas.List.{length-map}
use Rattle.market_units.specs.Totals.{total}
use Rattle.market_units.specs.Members.{has}
use Rattle.bundle_rules.specs.Sets.{AllAbove, IsAscending}
use Rattle.bundle_rules.specs.Existence.Members.{has-here, has-there, has-cases}
use Rattle.bundle_rules.specs.declared.menu.Rated.{Rated}
use Rattle.bundle_rules.specs.Menus.{IsMenu, section_at, place_in, wishes_of, by_place}
use Rattle.bundle_rules.specs.Existence.Places.{section_at-place_in, rated_on_menu}
use Rattle.bundle_rules.proofs.Feasibility.{credits_by_place}
pub use Rattle.bundle_rules.proofs.Renamed.{place_in-section_at}
use Rattle.bundle_rules.proofs.PlacesFirst.{AllOnMenu, place_in-rises}
use Rattle.bundle_bounds.specs.Offers.{OfferData, price_at, allowed_at, places_of}
use Rattle.bundle_bounds.specs.Laws.{IsTakable}
use Rattle.bundle_bounds.proofs.Openness.{MayBeTaken}

-- a place of the bundle is that of one of its sections
pub has-places : (places : List Rated) (ss : List ℕ) (p : ℕ) → has (map (place_in places) ss) p ≡ true → (s : ℕ) × (has ss s ≡ true) × (place_in places s ≡ p)
has-places places [] p is = absurd (false≢true is)
has-places places (s ∷ ss) p is =
    elim (has-cases (place_in places s) (map (place_in places) ss) p is) [
      | inl here ↦ (s, has-here s ss, here)
      | inr there ↦ let rest = has-places places ss p there in (rest.0, has-there s ss rest.0 rest.1, rest.2)
    ]

pub places-has : (places : List Rated) (ss : List ℕ) (s : ℕ) → has ss s ≡ true → has (map (place_in places) ss) (place_in places s) ≡ true
places-has places [] s is = absurd (false≢true is)
places-has places (t ∷ ss) s is =
    elim (has-cases t ss s is) [
      | inl here ↦ rw here (has-here (place_in places s) (map (place_in places) ss))
      | inr there ↦ has-there (place_in places t) (map (place_in places) ss) (place_in places s) (places-has places ss s there)
    ]

above_places : (places : List Rated) (s : ℕ) (ss : List ℕ) → IsAscending (map (λ rated. rated.section.0) places) → place_in places s < length places
    → AllOnMenu places ss → AllAbove s ss → AllAbove (place_in places s) (map (place_in places) ss)
above_places places s [] up on all above = tt
above_places places s (t ∷ ss) up on all above =
    (place_in-rises places s t up on (all t (has-here t ss)) above.0, above_places places s ss up on (λ x is. all x (has-there t ss x is)) above.1)

pub ascending_places : (places : List Rated) (ss : List ℕ) → IsAscending (map (λ rated. rated.section.0) places) → AllOnMenu places ss → IsAscending ss
    → IsAscending (map (place_in places) ss)
ascending_places places [] up all rises = tt
ascending_places places (s ∷ ss) up all rises = (
  above_places places s ss up (all s (has-here s ss)) (λ x is. all x (has-there s ss x is)) rises.0,
  ascending_places places ss up (λ x is. all x (has-there s ss x is)) rises.1,
)

pub prices_by_place : (offer : OfferData) (ss : List ℕ) → AllOnMenu offer.menu.places ss
    → total (price_at offer) (map (place_in offer.menu.places) ss) ≡ total offer.price ss
prices_by_place offer [] all = refl
prices_by_place offer (s ∷ ss) all =
    let here : price_at offer (place_in offer.menu.places s) ≡ offer.price s =
    ap offer.price (section_at-place_in offer.menu.places s (all s (has-here s ss))) in
    let rest = prices_by_place offer ss (λ x is. all x (has-there s ss x is)) in
    let a : ℕ = total (price_at offer) (map (place_in offer.menu.places) ss) in
    let b : ℕ = total offer.price ss in
    let rest' : a ≡ b = rest in
    let goal : price_at offer (place_in offer.menu.places s) + a ≡ offer.price s + b = omega arith in goal

-- what may be taken is on the menu
pub on_menu : (offer : OfferData) (bundle : List ℕ) → IsTakable offer bundle → AllOnMenu offer.menu.places bundle
unfolding wishes_of
on_menu offer bundle may s is = rated_on_menu offer.menu.places (place_in offer.menu.places s) (may.feasible.rated s is)

-- a bundle that may be taken, by its places
pub taken_places : (offer : OfferData) (bundle : List ℕ) → IsMenu offer.menu → IsTakable offer bundle → MayBeTaken offer (places_of offer.menu bundle)
unfolding wishes_of by_place
taken_places offer bundle menu may =
    let all = on_menu offer bundle may in
    let places = offer.menu.places in
    record {
      ascending = ascending_places places bundle menu.places.ascending all may.feasible.set;
      on_menu = λ p is. let at = has-places places bundle p is in rw (← at.2) (all at.0 at.1);
      affordable = rw (prices_by_place offer bundle all) may.affordable;
      credits = rw (credits_by_place offer.menu bundle) may.feasible.credits;
      courses = rw (length-map bundle (place_in places)) may.feasible.courses;
      allowed = λ p is.
          let at = has-places places bundle p is in
          ap (allowed_at offer) (sym at.2) ∙ ap offer.allowed (section_at-place_in places at.0 (all at.0 at.1)) ∙ may.within at.0 at.1;
      apart = λ p q is is' other.
          let at = has-places places bundle p is in
          let at' = has-places places bundle q is' in
          rw (← at.2, ← at'.2) (may.feasible.apart at.0 at'.0 at.1 at'.1 (λ e. other (sym at.2 ∙ ap (place_in places) e ∙ at'.2)));
    }

bool_same : (a b : Bool) → (a ≡ true → b ≡ true) → (b ≡ true → a ≡ true) → a ≡ b
bool_same true b f g = sym (f refl)
bool_same false true f g = g refl
bool_same false false f g = refl

-- a place is among those of a bundle where its section is in the bundle
pub has_by_place : (places : List Rated) (ss : List ℕ) (p : ℕ) → IsAscending (map (λ rated. rated.section.0) places) → AllOnMenu places ss → p < length places
    → has (map (place_in places) ss) p ≡ has ss (section_at places p)
has_by_place places ss p up all low = bool_same _ _ there back
  where
    there : has (map (place_in places) ss) p ≡ true → has ss (section_at places p) ≡ true
    there is = let at = has-places places ss p is in ap (has ss) (ap (section_at places) (sym at.2) ∙ section_at-place_in places at.0 (all at.0 at.1)) ∙ at.1

    back : has ss (section_at places p) ≡ true → has (map (place_in places) ss) p ≡ true
    back is = ap (has (map (place_in places) ss)) (sym (place_in-section_at places p up low)) ∙ places-has places ss (section_at places p) is
