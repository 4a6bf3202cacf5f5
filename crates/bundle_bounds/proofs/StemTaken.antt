-- A stem at the node below, with the next place.
use Rattle.std.proofs.Common.{◌≡◌, ℕ, ◌+◌, ◌-◌, ◌≤◌, ◌<◌, true, List, [], ◌∷◌, ◌++◌, length, take, set, min, length-set, Some, sym, ap, subst, ◌∙◌, arith}
use Rattle.std.specs.Prelude.{ℤ, pos, neg_ℤ, ◌+ℤ◌, ◌≤ℤ◌, filter, slice_get}
use Rattle.std.proofs.lemmas.Int.{ints}
use Rattle.std.proofs.lemmas.List.{length-take, map-append, take_more_set}
use Rattle.std.proofs.lemmas.List.Elements.{All-append, All-cons, All-nil}
use Rattle.market_units.specs.Totals.{signed_total}
use Rattle.bundle_rules.specs.declared.menu.Rated.{Rated}
use Rattle.bundle_rules.specs.declared.place_list.Places.{Places}
use Rattle.bundle_rules.specs.Existence.Places.{rating_at-is}
use Rattle.bundle_rules.specs.Menus.{IsMenu, adjustment_in, by_place, credits_at, place_in, rating_at, section_at}
use Rattle.bundle_rules.specs.Wishes.{utility}
use Rattle.bundle_rules.proofs.Feasibility.{places_of_rated}
use Rattle.bundle_bounds.specs.declared.prospects.Prospect.{Prospect}
use Rattle.bundle_bounds.specs.declared.opens.Rests.{Rests}
use Rattle.bundle_bounds.specs.Laws.{IsNode}
use Rattle.bundle_bounds.specs.Offers.{OfferData, AreOnMenu, places_of, price_at}
use Rattle.bundle_bounds.specs.Rests.{AreRests}
use Rattle.bundle_bounds.specs.Opens.{is_open, budget_left, credits_left, courses_left, open_places, prospects}
use Rattle.bundle_bounds.specs.Stems.{HasChosen, open_ones_at}
use Rattle.bundle_bounds.proofs.ByPlace.{place_in-section_at}
use Rattle.bundle_bounds.proofs.Gains.{utility-append}
use Rattle.bundle_bounds.proofs.Openings.{open_facts}
use Rattle.bundle_bounds.proofs.StayingOpen.{rests_less, opens_filter}

utility_taken : (offer : OfferData) (cs : List ℕ) (k : ℕ) (a : ℤ) → a ≡ signed_total (λ other. adjustment_in offer.menu.pairs other k) cs
    → utility (by_place offer.menu) (cs ++ k ∷ []) ≡ utility (by_place offer.menu) cs +ℤ (pos (rating_at offer.menu.places k) +ℤ a)
unfolding by_place
utility_taken offer cs k a a_is =
    let u : ℤ = utility (by_place offer.menu) cs in
    let r : ℕ = rating_at offer.menu.places k in
    let s : ℤ = signed_total (λ other. adjustment_in offer.menu.pairs other k) cs in
    let whole : utility (by_place offer.menu) (cs ++ k ∷ []) ≡ u +ℤ (((pos r +ℤ s) +ℤ pos 0) +ℤ pos 0) = utility-append (by_place offer.menu) cs (k ∷ []) in
    let same : a ≡ s = a_is in
    let goal : u +ℤ (((pos r +ℤ s) +ℤ pos 0) +ℤ pos 0) ≡ u +ℤ (pos r +ℤ a) = omega (arith, ints) in
    whole ∙ goal

module _ (offer : OfferData) (menu : IsMenu offer.menu) (k : ℕ) (low : k < length offer.menu.places) (champion chosen : List ℕ) (champions : Places) (most : ℤ)
    (places : List ℕ) (count : ℕ) (so_far : ℤ) (rests : Rests)
    (is : HasChosen offer champion chosen champions most places count so_far rests) where
  pub places_next : places_of offer.menu (chosen ++ section_at offer.menu.places k ∷ []) ≡ places_of offer.menu chosen ++ k ∷ []
  places_next =
      map-append (place_in offer.menu.places) chosen (section_at offer.menu.places k ∷ [])
      ∙ ap (λ p. places_of offer.menu chosen ++ p ∷ []) (place_in-section_at offer.menu.places k menu.places.ascending low)

  pub count_is : count ≡ length (places_of offer.menu chosen)
  count_is =
      let size : length (take count places) ≡ min count (length places) = length-take count places in
      let whole = is.whole in
      let few = is.few in
      (let goal : count ≡ length (take count places) = omega arith in goal) ∙ ap length is.chosen_is

  pub count_low : is_open offer (places_of offer.menu chosen) k ≡ true → count < 8
  count_low opened =
      let one : 1 ≤ courses_left offer (places_of offer.menu chosen) = (open_facts offer (places_of offer.menu chosen) k opened).courses in
      let n : ℕ = length (places_of offer.menu chosen) in
      let same : count ≡ n = count_is in
      let one' : 1 ≤ offer.menu.courses - n = one in
      let caps : offer.menu.courses ≤ 8 = menu.caps.courses_cap in
      omega arith

  pub chosen_next : (opened : is_open offer (places_of offer.menu chosen) k ≡ true)
      → take (count + 1) (set places count k) ≡ places_of offer.menu chosen ++ k ∷ []
  chosen_next opened =
      let room : count < length places = (let whole = is.whole in let few = count_low opened in omega arith) in
      take_more_set places count k room ∙ ap (λ l. l ++ k ∷ []) is.chosen_is

  pub before_on_menu : IsNode offer k chosen → AreOnMenu offer.menu (take count places)
  before_on_menu node = subst (AreOnMenu offer.menu) (sym is.chosen_is) (places_of_rated offer.menu chosen node.takable.feasible.rated)

  pub next_on_menu : IsNode offer k chosen → (opened : is_open offer (places_of offer.menu chosen) k ≡ true)
      → AreOnMenu offer.menu (take (count + 1) (set places count k))
  next_on_menu node opened =
      subst (AreOnMenu offer.menu) (sym (chosen_next opened))
      (All-append (λ place. place < length offer.menu.places) (places_of offer.menu chosen) (k ∷ [])
      (places_of_rated offer.menu chosen node.takable.feasible.rated)
      (All-cons (λ place. place < length offer.menu.places) k [] low (All-nil (λ place. place < length offer.menu.places))))

  pub few_next : length (take (count + 1) (set places count k)) ≤ 8
  few_next =
      let size : length (take (count + 1) (set places count k)) ≡ min (count + 1) (length (set places count k)) =
      length-take (count + 1) (set places count k) in
      let same : length (set places count k) ≡ length places = length-set places count k in
      let whole = is.whole in
      omega arith

  -- what is chosen with the next place
  pub chosen_taken : is_open offer (places_of offer.menu chosen) k ≡ true → (rated : Rated) (a : ℤ) (next : ℤ) (rests' : Rests) (price credits : ℕ)
      → slice_get offer.menu.places k ≡ Some rated → rated.rating ≤ 100 → a ≡ signed_total (λ other. adjustment_in offer.menu.pairs other k) (take count places)
      → neg_ℤ (pos 1600) ≤ℤ a → a ≤ℤ pos 1600
      → next ≡ so_far +ℤ (pos rated.rating +ℤ a) → price ≡ price_at offer k → credits ≡ credits_at offer.menu.places k
      → rests'.budget ≡ rests.budget - price → rests'.credits ≡ rests.credits - credits → rests'.courses ≡ rests.courses - 1
      → HasChosen offer champion (chosen ++ section_at offer.menu.places k ∷ []) champions most (set places count k) (count + 1) next rests'
  chosen_taken opened rated a next rests' price credits at small a_is a_low a_high next_is price_is credits_is budget_next credits_next courses_next =
      let few = count_low opened in
      let low' = is.low in
      let high' = is.high in
      let cs = places_of offer.menu chosen in
      let less =
      rests_less offer cs k rests.budget rests.credits rests.courses rests'.budget rests'.credits rests'.courses price credits is.budget_is is.credits_is
      is.courses_is price_is credits_is budget_next credits_next courses_next in
      let rating : rated.rating ≡ rating_at offer.menu.places k = sym (rating_at-is offer.menu.places k rated at) in
      let a_at : a ≡ signed_total (λ other. adjustment_in offer.menu.pairs other k) (places_of offer.menu chosen) =
      a_is ∙ ap (signed_total (λ other. adjustment_in offer.menu.pairs other k)) is.chosen_is in
      record {
        champion_is = is.champion_is;
        most_is = is.most_is;
        whole = length-set places count k ∙ is.whole;
        few = omega arith;
        chosen_is = chosen_next opened ∙ sym places_next;
        utility_is =
            next_is ∙ (λ i. is.utility_is i +ℤ (pos (rating i) +ℤ a)) ∙ sym (utility_taken offer cs k a a_at)
            ∙ ap (utility (by_place offer.menu)) (sym places_next);
        low = omega (arith, ints);
        high = omega (arith, ints);
        budget_is = less.0 ∙ ap (λ l. budget_left offer l) (sym places_next);
        credits_is = less.1 ∙ ap (λ l. credits_left offer l) (sym places_next);
        courses_is = less.2 ∙ ap (courses_left offer) (sym places_next);
      }

  pub rests_taken : (opened : is_open offer (places_of offer.menu chosen) k ≡ true) → (rests' : Rests) (price credits : ℕ) → price ≡ price_at offer k
      → credits ≡ credits_at offer.menu.places k
      → rests'.budget ≡ rests.budget - price → rests'.credits ≡ rests.credits - credits → rests'.courses ≡ rests.courses - 1
      → AreRests offer (take (count + 1) (set places count k)) rests'
  rests_taken opened rests' price credits price_is credits_is budget_next credits_next courses_next =
      let less =
      rests_less offer (places_of offer.menu chosen) k rests.budget rests.credits rests.courses rests'.budget rests'.credits rests'.courses price credits
      is.budget_is is.credits_is is.courses_is price_is credits_is budget_next credits_next courses_next in
      let same = sym (chosen_next opened) in
      record {
        budget_is = less.0 ∙ ap (budget_left offer) same;
        credits_is = less.1 ∙ ap (credits_left offer) same;
        courses_is = less.2 ∙ ap (courses_left offer) same;
      }

  -- what is kept of the open places
  pub kept_taken : (opened : is_open offer (places_of offer.menu chosen) k ≡ true) → (kept : List Prospect)
      → kept
      ≡ prospects offer (take (count + 1) (set places count k))
      (filter (is_open offer (take (count + 1) (set places count k))) (open_places offer (k + 1) (places_of offer.menu chosen)))
      → kept ≡ open_ones_at offer (k + 1) (places_of offer.menu (chosen ++ section_at offer.menu.places k ∷ []))
  kept_taken opened kept kept_is =
      kept_is
      ∙ ap (λ l. prospects offer l (filter (is_open offer l) (open_places offer (k + 1) (places_of offer.menu chosen)))) (chosen_next opened)
      ∙ ap (prospects offer (places_of offer.menu chosen ++ k ∷ []))
      (opens_filter offer (places_of offer.menu chosen) k (k + 1) (length offer.menu.places - (k + 1)))
      ∙ ap (open_ones_at offer (k + 1)) (sym places_next)
