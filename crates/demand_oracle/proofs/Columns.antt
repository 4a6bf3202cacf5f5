-- What a node leaves, and what it leaves with one more section.
use Rattle.std.proofs.Common.{◌≡◌, ◌<◌, ◌≤◌, ◌+◌, ◌-◌, ◌++◌, ℕ, List, [], ◌∷◌, length, refl, ap, sym, ◌∙◌, subst, arith, length-append}
use Rattle.std.proofs.lemmas.List.{map-append}
use Rattle.market_units.specs.Totals.{total}
use Rattle.market_units.proofs.Sums.{total-append}
use Rattle.bundle_rules.specs.Menus.{IsMenu, by_place, credits_at, place_in, section_at}
use Rattle.bundle_rules.proofs.Feasibility.{credits_by_place}
use Rattle.bundle_bounds.specs.Offers.{OfferData, price_at, places_of}
use Rattle.bundle_bounds.specs.Opens.{budget_left, credits_left}
use Rattle.bundle_bounds.specs.Laws.{IsTakable, IsNode}
use Rattle.bundle_bounds.proofs.ByPlace.{on_menu, prices_by_place, place_in-section_at, has-places}
use Rattle.demand_oracle.specs.declared.summed_node.SummedNode.{SummedNode}
use Rattle.demand_oracle.specs.declared.reach.Reach.{Reach}
use Rattle.demand_oracle.specs.declared.reach.Column.{Column}
use Rattle.demand_oracle.specs.Columns.{IsColumnFor, IsColumn, IsColumnAt}
use Rattle.demand_oracle.specs.Reaches.{number_at, HoldsHopes}
use Rattle.demand_oracle.specs.SummedNodes.{chosen_of, IsSummed}
use Rattle.demand_oracle.specs.Values.{hopes_from}
use Rattle.demand_oracle.proofs.Growing.{paid_next, credits_next}
use Rattle.demand_oracle.proofs.Openings.{budget_kept, credits_kept}
use Rattle.demand_oracle.proofs.Pruning.{hopes_read}

module _ (offer : OfferData) (menu : IsMenu offer.menu) (summed : SummedNode) (is : IsSummed offer.menu offer.price summed) (reach : Reach) (column : Column) where
  -- the column of a node with its sums is that of what its sections leave
  pub column_at : IsTakable offer (chosen_of summed) → IsColumn offer.menu offer.budget reach summed column → IsColumnAt offer reach (chosen_of summed) column
  column_at may column_is =
      subst (λ n. IsColumnFor reach (offer.menu.courses - length (chosen_of summed)) n (credits_left offer (places_of offer.menu (chosen_of summed))) column)
      (budget_kept offer menu summed is may)
      (subst (λ n. IsColumnFor reach (offer.menu.courses - length (chosen_of summed)) (offer.budget - summed.paid) n column)
      (credits_kept offer menu summed is may) column_is)

module _ (offer : OfferData) (menu : IsMenu offer.menu) (summed : SummedNode) (is : IsSummed offer.menu offer.price summed) (place : ℕ)
    (later : summed.node.place ≤ place) (low : place < length offer.menu.places) where
  abbrev with_it : List ℕ
  with_it = chosen_of summed ++ section_at offer.menu.places place ∷ []

  places_with : places_of offer.menu with_it ≡ places_of offer.menu (chosen_of summed) ++ place ∷ []
  places_with =
      map-append (place_in offer.menu.places) (chosen_of summed) (section_at offer.menu.places place ∷ [])
      ∙ ap (λ p. places_of offer.menu (chosen_of summed) ++ p ∷ []) (place_in-section_at offer.menu.places place menu.places.ascending low)

  courses_with : (offer.menu.courses - length (chosen_of summed)) - 1 ≡ offer.menu.courses - length with_it
  courses_with = let more : length with_it ≡ length (chosen_of summed) + 1 = length-append (chosen_of summed) (section_at offer.menu.places place ∷ []) in omega arith

  budget_with : IsTakable offer with_it → (offer.budget - summed.paid) - price_at offer place ≡ budget_left offer (places_of offer.menu with_it)
  budget_with may =
      let t : ℕ = total (price_at offer) (places_of offer.menu with_it) in
      let p : ℕ = price_at offer place in
      let all : t ≡ summed.paid + p =
      prices_by_place offer with_it (on_menu offer with_it may) ∙ paid_next offer.menu menu offer.price summed is place later low in
      let goal : (offer.budget - summed.paid) - p ≡ offer.budget - t = omega arith in goal

  credits_with : (offer.menu.credits - summed.credits) - credits_at offer.menu.places place ≡ credits_left offer (places_of offer.menu with_it)
  unfolding by_place
  credits_with =
      let t : ℕ = total (credits_at offer.menu.places) (places_of offer.menu with_it) in
      let l : ℕ = credits_at offer.menu.places place in
      let all : t ≡ summed.credits + l =
      credits_by_place offer.menu with_it ∙ credits_next offer.menu menu offer.price summed is place later low in
      let goal : (offer.menu.credits - summed.credits) - l ≡ offer.menu.credits - t = omega arith in goal

  -- the column of what a node leaves with one more section
  pub column_with : (reach : Reach) (column : Column) (courses budget credits : ℕ)
      → IsTakable offer (chosen_of summed ++ section_at offer.menu.places place ∷ [])
      → courses ≡ (offer.menu.courses - length (chosen_of summed)) - 1 → budget ≡ (offer.budget - summed.paid) - price_at offer place
      → credits ≡ (offer.menu.credits - summed.credits) - credits_at offer.menu.places place → IsColumnFor reach courses budget credits column
      → IsColumnAt offer reach (chosen_of summed ++ section_at offer.menu.places place ∷ []) column
  column_with reach column courses budget credits may courses_are budget_is credits_are column_is =
      let cs = places_of offer.menu with_it in
      subst (λ n. IsColumnFor reach n (budget_left offer cs) (credits_left offer cs) column) (courses_are ∙ courses_with)
      (subst (λ n. IsColumnFor reach courses n (credits_left offer cs) column) (budget_is ∙ budget_with may)
      (subst (λ n. IsColumnFor reach courses budget n column) (credits_are ∙ credits_with) column_is))

  -- what its places hope for
  pub hopes_with : (table : List (List ℕ)) (next : ℕ) → HoldsHopes offer table 0 → next ≤ length offer.menu.places
      → IsNode offer next (chosen_of summed ++ section_at offer.menu.places place ∷ [])
      → total (number_at table next) (places_of offer.menu (chosen_of summed)) + number_at table next place
      ≡ total (hopes_from offer next) (places_of offer.menu (chosen_of summed ++ section_at offer.menu.places place ∷ []))
  hopes_with table next holds on node =
      let cs = places_of offer.menu (chosen_of summed) in
      let t : ℕ = total (number_at table next) cs in
      let n : ℕ = number_at table next place in
      let split : total (number_at table next) (cs ++ place ∷ []) ≡ t + (n + 0) = total-append (number_at table next) cs (place ∷ []) in
      let whole : t + n ≡ total (number_at table next) (cs ++ place ∷ []) = omega arith in
      whole ∙ ap (total (number_at table next)) (sym places_with)
      ∙ hopes_read offer table next next (places_of offer.menu with_it) holds refl on
      (λ c is_in. (let at = has-places offer.menu.places with_it c is_in in rw (← at.2) (node.decided at.0 at.1)))
