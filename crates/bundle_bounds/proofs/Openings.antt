-- A place is open exactly where the chosen sections with its own may be taken.
use Rattle.std.proofs.Common.{◌≡◌, ◌<◌, ◌≤◌, ◌+◌, ◌-◌, ◌++◌, ℕ, true, false, List, [], ◌∷◌, length, sym, ◌∙◌, ap, subst, inl, inr, arith, length-append}
use Rattle.std.specs.Prelude.{nat_le, not}
use Rattle.std.proofs.lemmas.Bool.{false≢true}
use Rattle.std.proofs.lemmas.Bool.Decides.{nat_tests}
use Rattle.std.proofs.lemmas.List.{map-append, length-map}
use Rattle.plain_facts.proofs.Numbers.{le_true}
use Rattle.plain_facts.proofs.Truths.{and_parts, not_true}
use Rattle.market_units.specs.Totals.{total}
use Rattle.market_units.proofs.Sums.{total-append}
use Rattle.market_units.specs.Members.{has}
use Rattle.bundle_rules.specs.Sets.{IsAscending}
use Rattle.bundle_rules.specs.Menus.{IsMenu, wishes_of, by_place, clash_in, credits_at, section_at, place_in}
use Rattle.bundle_rules.specs.Existence.Members.{has-here, has-there, has-cases, AllAbove-more}
use Rattle.bundle_rules.specs.Existence.Places.{section_at-place_in, on_menu_rated}
use Rattle.bundle_rules.proofs.Feasibility.{credits_by_place}
use Rattle.bundle_rules.proofs.PlacesFirst.{section_at-rises}
use Rattle.bundle_bounds.specs.Offers.{OfferData, price_at, allowed_at, places_of}
use Rattle.bundle_bounds.specs.Opens.{budget_left, credits_left, courses_left, is_apart, is_open}
use Rattle.bundle_bounds.specs.Laws.{IsTakable, IsNode}
use Rattle.bundle_bounds.proofs.Openness.{MayBeTaken, is_open-more}
use Rattle.bundle_bounds.proofs.ByPlace.{place_in-section_at, places-has, has-places, on_menu, taken_places, prices_by_place}
use Rattle.bundle_bounds.specs.PruningLaws.{OpensWhereTakable}
use Rattle.market_units.proofs.Memberships.{has_push}

-- what the test of a place says
pub record IsOpen (offer : OfferData) (places : List ℕ) (k : ℕ) : Type 0 where
  pub allowed : allowed_at offer k ≡ true
  pub apart : is_apart offer places k ≡ true
  pub price : price_at offer k ≤ budget_left offer places
  pub credits : credits_at offer.menu.places k ≤ credits_left offer places
  pub courses : 1 ≤ courses_left offer places

le_of : (a b : ℕ) → nat_le a b ≡ true → a ≤ b
le_of a b h = grind (arith, nat_tests)

pub open_facts : (offer : OfferData) (places : List ℕ) (k : ℕ) → is_open offer places k ≡ true → IsOpen offer places k
open_facts offer places k is =
    let a = and_parts (allowed_at offer k) _ is in
    let b = and_parts (is_apart offer places k) _ a.1 in
    let c = and_parts (nat_le (price_at offer k) (budget_left offer places)) _ b.1 in
    let d = and_parts (nat_le (credits_at offer.menu.places k) (credits_left offer places)) _ c.1 in
    record { allowed = a.0; apart = b.0; price = le_of _ _ c.0; credits = le_of _ _ d.0; courses = le_of _ _ d.1 }

apart_from_each : (offer : OfferData) (places : List ℕ) (k : ℕ) → is_apart offer places k ≡ true → (p : ℕ) → has places p ≡ true
    → clash_in offer.menu.clashes k p ≡ false
apart_from_each offer [] k apart p is = absurd (false≢true is)
apart_from_each offer (q ∷ places) k apart p is =
    let parts = and_parts (not (clash_in offer.menu.clashes k q)) _ apart in
    elim (has-cases q places p is) [
      | inl here ↦ ap (clash_in offer.menu.clashes k) (sym here) ∙ not_true _ parts.0
      | inr there ↦ apart_from_each offer places k parts.1 p there
    ]

pub ascending-last : (xs : List ℕ) (s : ℕ) → IsAscending xs → ((t : ℕ) → has xs t ≡ true → t < s) → IsAscending (xs ++ s ∷ [])
ascending-last [] s up low = (tt, tt)
ascending-last (x ∷ xs) s up low = (AllAbove-more x xs s up.0 (low x (has-here x xs)), ascending-last xs s up.1 (λ t is. low t (has-there x xs t is)))

-- one more fits where it is within what is left
fits : (whole before more left most : ℕ) → whole ≡ before + (more + 0) → more ≤ most - before → before ≤ most → whole ≤ most
fits whole before more left most split within below = omega arith

module _ (offer : OfferData) (menu : IsMenu offer.menu) (k : ℕ) (chosen : List ℕ) (node : IsNode offer k chosen) (low : k < length offer.menu.places) where
  next : ℕ
  next = section_at offer.menu.places k

  place_of_next : place_in offer.menu.places (section_at offer.menu.places k) ≡ k
  place_of_next = place_in-section_at offer.menu.places k menu.places.ascending low

  -- the chosen sections are below the next one
  chosen_below : (t : ℕ) → has chosen t ≡ true → t < section_at offer.menu.places k
  chosen_below t is =
      let decided : place_in offer.menu.places t < k = node.decided t is in
      let at : section_at offer.menu.places (place_in offer.menu.places t) ≡ t =
      section_at-place_in offer.menu.places t (on_menu offer chosen node.takable t is) in
      subst (λ x. x < section_at offer.menu.places k) at (section_at-rises offer.menu.places (place_in offer.menu.places t) k menu.places.ascending decided low)

  -- and clash with it nowhere
  chosen_apart : is_apart offer (places_of offer.menu chosen) k ≡ true → (t : ℕ) → has chosen t ≡ true
      → clash_in offer.menu.clashes k (place_in offer.menu.places t) ≡ false
  chosen_apart apart t is =
      apart_from_each offer (places_of offer.menu chosen) k apart (place_in offer.menu.places t) (places-has offer.menu.places chosen t is)

  pub takable_where_open : IsOpen offer (places_of offer.menu chosen) k → IsTakable offer (chosen ++ section_at offer.menu.places k ∷ [])
  unfolding wishes_of by_place
  takable_where_open open_ =
      let s : ℕ = section_at offer.menu.places k in
      let taken = taken_places offer chosen menu node.takable in
      let places = offer.menu.places in
      let apart_next = chosen_apart open_.apart in
      record {
        feasible = record {
          set = ascending-last chosen (section_at offer.menu.places k) node.takable.feasible.set chosen_below;
          rated = λ t in_it. elim (has_push chosen (section_at offer.menu.places k) t in_it) [
            | inl before ↦ node.takable.feasible.rated t before
            | inr last ↦ rw (← last, place_of_next) (on_menu_rated offer.menu.places k menu.places.each low)
          ];
          apart = λ t u in_t in_u other. elim (has_push chosen (section_at offer.menu.places k) t in_t) [
            | inl before ↦ elim (has_push chosen (section_at offer.menu.places k) u in_u) [
              | inl before' ↦ node.takable.feasible.apart t u before before' other
              | inr last ↦
                  rw (← last, place_of_next)
                  (sym (menu.clashes.each k (place_in offer.menu.places t) low (on_menu offer chosen node.takable t before)).both_ways
                  ∙ apart_next t before)
            ]
            | inr last ↦ elim (has_push chosen (section_at offer.menu.places k) u in_u) [
              | inl before' ↦ rw (← last, place_of_next) (apart_next u before')
              | inr last' ↦ absurd (other (sym last ∙ last'))
            ]
          ];
          credits =
              fits _ (total (wishes_of offer.menu).credits chosen) _ 0 _
              (total-append (wishes_of offer.menu).credits chosen (section_at offer.menu.places k ∷ []))
              (rw place_of_next (subst (λ n. credits_at offer.menu.places k ≤ offer.menu.credits - n) (credits_by_place offer.menu chosen) open_.credits))
              node.takable.feasible.credits;
          courses =
              fits _ (length chosen) 1 0 _ (length-append chosen (section_at offer.menu.places k ∷ []))
              (subst (λ n. 1 ≤ offer.menu.courses - n) same_length open_.courses) node.takable.feasible.courses;
        };
        affordable = fits _ (total offer.price chosen) _ 0 _ (total-append offer.price chosen (section_at offer.menu.places k ∷ []))
            (subst (λ n. price_at offer k ≤ offer.budget - n) (prices_by_place offer chosen (on_menu offer chosen node.takable)) open_.price)
            node.takable.affordable;
        within = λ t in_it. elim (has_push chosen (section_at offer.menu.places k) t in_it) [
          | inl before ↦ node.takable.within t before
          | inr last ↦ ap offer.allowed (sym last) ∙ open_.allowed
        ];
      }
    where
      same_length : length (places_of offer.menu chosen) ≡ length chosen
      same_length = length-map chosen (place_in offer.menu.places)

  pub open_where_takable : IsTakable offer (chosen ++ section_at offer.menu.places k ∷ []) → IsOpen offer (places_of offer.menu chosen) k
  open_where_takable takable =
      let cs = places_of offer.menu chosen in
      let split : places_of offer.menu (chosen ++ section_at offer.menu.places k ∷ []) ≡ cs ++ k ∷ [] =
      map-append (place_in offer.menu.places) chosen (section_at offer.menu.places k ∷ []) ∙ ap (λ p. places_of offer.menu chosen ++ p ∷ []) place_of_next in
      let may : MayBeTaken offer (cs ++ k ∷ []) = subst (MayBeTaken offer) split (taken_places offer _ menu takable) in
      let below : (c : ℕ) → has cs c ≡ true → c < k = λ c is. (let at = has-places offer.menu.places chosen c is in rw (← at.2) (node.decided at.0 at.1)) in
      let above : (d : ℕ) → has (k ∷ []) d ≡ true → k ≤ d =
      λ d is. elim (has-cases k [] d is) [ inl here ↦ omega arith | inr there ↦ absurd (false≢true there) ] in
      open_facts offer cs k (is_open-more offer k cs (k ∷ []) may below above k (has-here k []))

-- the node with the next section, and the one without it
pub node_with : (offer : OfferData) (k : ℕ) (chosen : List ℕ) → IsMenu offer.menu → k < length offer.menu.places → IsNode offer k chosen
    → IsTakable offer (chosen ++ section_at offer.menu.places k ∷ []) → IsNode offer (k + 1) (chosen ++ section_at offer.menu.places k ∷ [])
node_with offer k chosen menu low node takable = record {
  takable = takable;
  decided = λ s is. elim (has_push chosen (section_at offer.menu.places k) s is) [
    | inl before ↦ let below : place_in offer.menu.places s < k = node.decided s before in omega arith
    | inr last ↦
        let at : place_in offer.menu.places s ≡ k =
        ap (place_in offer.menu.places) (sym last) ∙ place_in-section_at offer.menu.places k menu.places.ascending low in
        omega arith
  ];
}

pub node_without : (offer : OfferData) (k : ℕ) (chosen : List ℕ) → IsNode offer k chosen → IsNode offer (k + 1) chosen
node_without offer k chosen node =
    record { takable = node.takable; decided = λ s is. (let below : place_in offer.menu.places s < k = node.decided s is in omega arith) }

-- two names of one node
pub node_same : (offer : OfferData) (k j : ℕ) (chosen others : List ℕ) → k ≡ j → chosen ≡ others → IsNode offer k chosen → IsNode offer j others
node_same offer k j chosen others same equal node = subst (λ n. IsNode offer n others) same (subst (IsNode offer k) equal node)

-- a node is one also where more places count as decided
pub node_later : (offer : OfferData) (k place : ℕ) (chosen : List ℕ) → k ≤ place → IsNode offer k chosen → IsNode offer place chosen
node_later offer k place chosen later node =
    record { takable = node.takable; decided = λ s is. (let below : place_in offer.menu.places s < k = node.decided s is in omega arith) }

pub open_of : (offer : OfferData) (places : List ℕ) (k : ℕ) → IsOpen offer places k → is_open offer places k ≡ true
open_of offer places k is =
    rw (is.allowed, is.apart, le_true _ _ is.price, le_true _ _ is.credits) (le_true _ _ is.courses)

pub opens_where_takable : OpensWhereTakable
opens_where_takable offer k place chosen menu node later low =
    let at = node_later offer k place chosen later node in (
      λ is. takable_where_open offer menu place chosen at low (open_facts offer (places_of offer.menu chosen) place is),
      λ takable. open_of offer (places_of offer.menu chosen) place (open_where_takable offer menu place chosen at low takable),
    )
