-- What is known of an open place, by what is read of the menu.
use Rattle.std.proofs.Common.{◌≡◌, ℕ, zero, suc, ◌+◌, ◌-◌, ◌≤◌, ◌<◌, Bool, true, false, ◌&&◌, ◌==◌, set, drop, List, [], ◌∷◌, length, map, take, min, Some, refl, sym, ap, ◌∙◌, arith, inl, inr}
use Rattle.std.specs.Prelude.{ℤ, pos, ◌+ℤ◌, slice_get, nat_le, All}
use Rattle.std.specs.Ordering.{nat_cmp}
use Rattle.std.specs.FinSet as fin
use Rattle.std.proofs.Math.Seq.{take-length}
use Rattle.std.proofs.lemmas.List.{length-drop}
use Rattle.std.proofs.lemmas.Bool.{cases_Bool, cases_lt}
use Rattle.std.proofs.lemmas.Bool.Decides.{nat_tests}
use Rattle.market_units.specs.declared.units.Tokens.{Tokens}
use Rattle.market_units.specs.Totals.{total, signed_total}
use Rattle.bundle_rules.specs.declared.menu.Rated.{Rated}
use Rattle.bundle_rules.specs.Demand.{price_in}
use Rattle.bundle_rules.specs.Menus.{course_at, MenuData, IsMenu, section_at, credits_at, rating_at, adjustment_in}
use Rattle.bundle_rules.specs.Existence.Places.{rating_at-is, credits_at-is}
use Rattle.bundle_rules.proofs.RankedPlaces.{course_at-get}
use Rattle.bundle_bounds.specs.declared.prospects.Prospect.{Prospect}
use Rattle.bundle_bounds.specs.Offers.{OfferData, offer_of, allowed_at, price_at}
use Rattle.bundle_bounds.specs.Opens.{above_zero, is_apart, is_open, budget_left, credits_left, courses_left, opens_from, open_places, first_of_course, prospect, prospects}
use Rattle.market_units.proofs.Sums.{total-map}

first_low : (places : List Rated) (p : ℕ) → p < length places → first_of_course places (course_at places p) ≤ p
first_low [] p low = absurd (omega arith)
first_low (rated ∷ places) zero low = let same : (rated.course == rated.course) ≡ true = grind (arith, nat_tests) in rw same (omega arith)
first_low (rated ∷ places) (suc p) low =
    elim (cases_Bool (rated.course == course_at places p)) [
      | inl same ↦ rw same (omega arith)
      | inr other ↦
          let rest = first_low places p (omega arith) in
          rw other (let n : ℕ = first_of_course places (course_at places p) in let rest' : n ≤ p = rest in let goal : suc n ≤ suc p = omega arith in goal)
    ]

pub prospect_is : (menu : MenuData) (prices : List Tokens) (budget : ℕ) (allowed : fin.FinSet nat_cmp) (chosen : List ℕ) (place : ℕ) (later : List Prospect)
    (rated : Rated) (course worth price : ℕ) (a : ℤ) (h : ℕ)
    → slice_get menu.places place ≡ Some rated → course ≡ first_of_course menu.places rated.course → worth ≡ above_zero ((pos rated.rating +ℤ a) +ℤ pos h)
    → a ≡ signed_total (λ other. adjustment_in menu.pairs other place) chosen
    → h ≡ total (λ other. above_zero (adjustment_in menu.pairs place other.place)) later
    → price ≡ price_in prices (section_at menu.places place)
    → ◌≡◌ {A = Prospect} (record { place = place; course = course; worth = worth; price = price; credits = rated.credits })
    (prospect (offer_of menu prices budget allowed) chosen place (map (λ other. other.place) later))
prospect_is menu prices budget allowed chosen place later rated course worth price a h at course_is worth_is a_is h_is price_is =
    let r = rating_at menu.places place in
    let rating_is : rated.rating ≡ r = sym (rating_at-is menu.places place rated at) in
    let s = signed_total (λ other. adjustment_in menu.pairs other place) chosen in
    let hopes_is : h ≡ total (λ other. above_zero (adjustment_in menu.pairs place other)) (map (λ other. other.place) later) =
    h_is ∙ sym (total-map (λ other. above_zero (adjustment_in menu.pairs place other)) (λ other. other.place) later) in
    let first = course_is ∙ ap (first_of_course menu.places) (sym (course_at-get menu.places place rated at)) in
    let second =
    worth_is ∙ ap (λ x. above_zero ((pos x +ℤ a) +ℤ pos h)) rating_is ∙ ap (λ x. above_zero ((pos r +ℤ x) +ℤ pos h)) a_is
    ∙ ap (λ x. above_zero ((pos r +ℤ s) +ℤ pos x)) hopes_is in
    let third = sym (credits_at-is menu.places place rated at) in
    λ i. record { place = place; course = first i; worth = second i; price = price_is i; credits = third i }

pub course_low : (menu : MenuData) (place : ℕ) (rated : Rated) (course : ℕ) → IsMenu menu → place < length menu.places
    → slice_get menu.places place ≡ Some rated → course ≡ first_of_course menu.places rated.course → course < 60
course_low menu place rated course is on at course_is =
    let low = first_low menu.places place on in
    let same : course ≡ first_of_course menu.places (course_at menu.places place) =
    course_is ∙ ap (first_of_course menu.places) (sym (course_at-get menu.places place rated at)) in
    let few = is.places.few in omega arith

-- the places of what is known of places are these places
pub places-prospects : (offer : OfferData) (chosen : List ℕ) (places : List ℕ) → map (λ p. p.place) (prospects offer chosen places) ≡ places
places-prospects offer chosen [] = refl
places-prospects offer chosen (place ∷ places) = ap (λ l. place ∷ l) (places-prospects offer chosen places)

-- ---- collecting from the last place on

pub open_same : (offer : OfferData) (chosen : List ℕ) (place x y z : ℕ) (b : Bool)
    → b
    ≡ (allowed_at offer place
    && (is_apart offer chosen place && (nat_le (price_at offer place) x && (nat_le (credits_at offer.menu.places place) y && nat_le 1 z))))
    → x ≡ budget_left offer chosen → y ≡ credits_left offer chosen → z ≡ courses_left offer chosen → b ≡ is_open offer chosen place
open_same offer chosen place x y z b is first second third =
    is
    ∙ ap
    (λ t. allowed_at offer place
    && (is_apart offer chosen place && (nat_le (price_at offer place) t && (nat_le (credits_at offer.menu.places place) y && nat_le 1 z))))
    first
    ∙ ap
    (λ t. allowed_at offer place
    && (is_apart offer chosen place
    && (nat_le (price_at offer place) (budget_left offer chosen) && (nat_le (credits_at offer.menu.places place) t && nat_le 1 z))))
    second
    ∙ ap
    (λ t. allowed_at offer place
    && (is_apart offer chosen place
    && (nat_le (price_at offer place) (budget_left offer chosen)
    && (nat_le (credits_at offer.menu.places place) (credits_left offer chosen) && nat_le 1 t))))
    third

pub opens_shut : (offer : OfferData) (chosen : List ℕ) (place n : ℕ) → place < n → is_open offer chosen place ≡ false
    → opens_from offer chosen place (n - place) ≡ opens_from offer chosen (place + 1) (n - (place + 1))
opens_shut offer chosen place n low shut = let e : n - place ≡ suc (n - (place + 1)) = omega arith in ap (opens_from offer chosen place) e ∙ rw shut refl

pub opens_open : (offer : OfferData) (chosen : List ℕ) (place n : ℕ) → place < n → is_open offer chosen place ≡ true
    → opens_from offer chosen place (n - place) ≡ place ∷ opens_from offer chosen (place + 1) (n - (place + 1))
opens_open offer chosen place n low opened = let e : n - place ≡ suc (n - (place + 1)) = omega arith in ap (opens_from offer chosen place) e ∙ rw opened refl

drop-set_front : (room : List Prospect) (i : ℕ) (x : Prospect) → i < length room → drop i (set room i x) ≡ x ∷ drop (suc i) room
drop-set_front [] i x low = absurd (omega arith)
drop-set_front (r ∷ room) zero x low = refl
drop-set_front (r ∷ room) (suc i) x low = drop-set_front room i x (omega arith)

pub put_front : (room : List Prospect) (s : ℕ) (x : Prospect) → 1 ≤ s → s ≤ length room → drop (s - 1) (set room (s - 1) x) ≡ x ∷ drop s room
put_front room s x some within = let e : suc (s - 1) ≡ s = omega arith in drop-set_front room (s - 1) x (omega arith) ∙ ap (λ n. x ∷ drop n room) e

pub all_cons : (P : Prospect → Type 0) (x : Prospect) (xs : List Prospect) → P x → All P xs → All P (x ∷ xs)
all_cons P x xs here rest zero d low = here
all_cons P x xs here rest (suc k) d low = rest k d (omega arith)

pub collected : (offer : OfferData) (chosen : List ℕ) (place n s : ℕ) (room : List Prospect) (x : Prospect) → place < n → is_open offer chosen place ≡ true → 1 ≤ s
    → s ≤ length room
    → drop s room ≡ prospects offer chosen (opens_from offer chosen (place + 1) (n - (place + 1)))
    → x ≡ prospect offer chosen place (map (λ p. p.place) (drop s room))
    → drop (s - 1) (set room (s - 1) x) ≡ prospects offer chosen (opens_from offer chosen place (n - place))
collected offer chosen place n s room x low opened some within rest is =
    let os = opens_from offer chosen (place + 1) (n - (place + 1)) in
    let later : map (λ p. p.place) (drop s room) ≡ os = ap (map (λ p. p.place)) rest ∙ places-prospects offer chosen os in
    let first : x ≡ prospect offer chosen place os = is ∙ ap (prospect offer chosen place) later in
    put_front room s x some within
    ∙ ap (λ p. p ∷ drop s room) first
    ∙ ap (λ l. prospect offer chosen place os ∷ l) rest
    ∙ ap (prospects offer chosen) (sym (opens_open offer chosen place n low opened))

-- what a slice to the end shows
pub rest_whole : (room : List Prospect) (s : ℕ) → take (length room - s) (drop s room) ≡ drop s room
rest_whole room s = ap (λ n. take n (drop s room)) (sym (length-drop s room)) ∙ take-length (drop s room)

-- the open places where all are decided, and where some places past the last are
pub open_places-within : (offer : OfferData) (k : ℕ) (chosen : List ℕ)
    → open_places offer k chosen ≡ opens_from offer chosen (min k (length offer.menu.places)) (length offer.menu.places - min k (length offer.menu.places))
open_places-within offer k chosen =
    let n = length offer.menu.places in
    elim (cases_lt k n) [
      | inl low ↦ let e : min k n ≡ k = omega arith in rw e refl
      | inr high ↦
          let e : min k n ≡ n = omega arith in
          let a : n - k ≡ 0 = omega arith in
          let b : n - n ≡ 0 = omega arith in
          rw (e, a, b) refl
    ]
