-- The section of an undecided place may be taken exactly where what a node leaves allows it.
use Rattle.std.proofs.Common.{◌≡◌, ◌<◌, ◌≤◌, ◌-◌, ◌++◌, ℕ, true, [], ◌∷◌, length, sym, ◌∙◌, ap, subst}
use Rattle.std.proofs.lemmas.List.{length-map}
use Rattle.bundle_rules.specs.Menus.{IsMenu, by_place, credits_at, section_at, place_in}
use Rattle.bundle_rules.proofs.Feasibility.{credits_by_place}
use Rattle.bundle_bounds.specs.Offers.{OfferData, price_at, allowed_at, places_of}
use Rattle.bundle_bounds.specs.Opens.{budget_left, credits_left, courses_left, is_apart}
use Rattle.bundle_bounds.specs.Laws.{IsTakable, IsNode}
use Rattle.bundle_bounds.proofs.ByPlace.{on_menu, prices_by_place}
use Rattle.bundle_bounds.proofs.Openings.{node_later, open_where_takable, takable_where_open}
use Rattle.demand_oracle.specs.declared.summed_node.SummedNode.{SummedNode}
use Rattle.demand_oracle.specs.SummedNodes.{chosen_of, IsSummed}

-- a place is open at a node: what its test asks
pub record IsOpenAt (offer : OfferData) (summed : SummedNode) (place : ℕ) : Type 0 where
  pub allowed : allowed_at offer place ≡ true
  pub price : price_at offer place ≤ offer.budget - summed.paid
  pub credits : credits_at offer.menu.places place ≤ offer.menu.credits - summed.credits
  pub courses : 1 ≤ offer.menu.courses - length (chosen_of summed)
  pub apart : is_apart offer (places_of offer.menu (chosen_of summed)) place ≡ true

module _ (offer : OfferData) (menu : IsMenu offer.menu) (summed : SummedNode) (is : IsSummed offer.menu offer.price summed)
    (may : IsTakable offer (chosen_of summed)) where
  -- what its sums leave is what the node leaves
  pub budget_kept : offer.budget - summed.paid ≡ budget_left offer (places_of offer.menu (chosen_of summed))
  budget_kept = ap (λ n. offer.budget - n) (is.paid ∙ sym (prices_by_place offer (chosen_of summed) (on_menu offer (chosen_of summed) may)))

  pub credits_kept : offer.menu.credits - summed.credits ≡ credits_left offer (places_of offer.menu (chosen_of summed))
  unfolding by_place
  credits_kept = ap (λ n. offer.menu.credits - n) (is.credits ∙ sym (credits_by_place offer.menu (chosen_of summed)))

  pub courses_kept : offer.menu.courses - length (chosen_of summed) ≡ courses_left offer (places_of offer.menu (chosen_of summed))
  courses_kept = ap (λ n. offer.menu.courses - n) (sym (length-map (chosen_of summed) (place_in offer.menu.places)))

module _ (offer : OfferData) (menu : IsMenu offer.menu) (summed : SummedNode) (is : IsSummed offer.menu offer.price summed) (k : ℕ)
    (node : IsNode offer k (chosen_of summed)) (place : ℕ) (later : k ≤ place) (low : place < length offer.menu.places) where
  pub takable_where_open_at : IsOpenAt offer summed place → IsTakable offer (chosen_of summed ++ section_at offer.menu.places place ∷ [])
  takable_where_open_at may =
      takable_where_open offer menu place (chosen_of summed) (node_later offer k place (chosen_of summed) later node) low record {
        allowed = may.allowed;
        apart = may.apart;
        price = subst (λ n. price_at offer place ≤ n) (budget_kept offer menu summed is node.takable) may.price;
        credits = subst (λ n. credits_at offer.menu.places place ≤ n) (credits_kept offer menu summed is node.takable) may.credits;
        courses = subst (λ n. 1 ≤ n) (courses_kept offer menu summed is node.takable) may.courses;
      }

  pub open_at_where_takable : IsTakable offer (chosen_of summed ++ section_at offer.menu.places place ∷ []) → IsOpenAt offer summed place
  open_at_where_takable takable =
      let at = open_where_takable offer menu place (chosen_of summed) (node_later offer k place (chosen_of summed) later node) low takable in record {
        allowed = at.allowed;
        apart = at.apart;
        price = subst (λ n. price_at offer place ≤ n) (sym (budget_kept offer menu summed is node.takable)) at.price;
        credits = subst (λ n. credits_at offer.menu.places place ≤ n) (sym (credits_kept offer menu summed is node.takable)) at.credits;
        courses = subst (λ n. 1 ≤ n) (sym (courses_kept offer menu summed is node.takable)) at.courses;
      }
