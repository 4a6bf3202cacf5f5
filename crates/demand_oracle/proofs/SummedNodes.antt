-- What the search does at a place.
use Rattle.std.proofs.Common.{◌≡◌, ◌<◌, ◌≤◌, ◌+◌, ◌++◌, ℕ, List, [], ◌∷◌, length, drop, refl, sym, subst, inl, inr, arith, length-append}
use Rattle.bundle_rules.specs.Menus.{section_at, wishes_of}
use Rattle.bundle_rules.specs.Places.{menu_sections}
use Rattle.bundle_bounds.specs.Offers.{OfferData}
use Rattle.bundle_bounds.specs.Laws.{IsTakable}
use Rattle.demand_oracle.specs.Search.{Aim, Kept, IsSearched, MayBePruned}
use Rattle.demand_oracle.proofs.Searching.{next_section, none_undecided}

none_fits : (offer : OfferData) (chosen : List ℕ) (s : ℕ) → offer.menu.courses ≤ length chosen → IsTakable offer (chosen ++ s ∷ []) → ⊥
unfolding wishes_of
none_fits offer chosen s full takable =
    let courses : length (chosen ++ s ∷ []) ≤ offer.menu.courses = takable.feasible.courses in
    let count : length (chosen ++ s ∷ []) ≡ length chosen + 1 = length-append chosen (s ∷ []) in omega arith

-- where as many sections are chosen as may be taken, all later places are passed over
pub full_to_end : (offer : OfferData) (aim : Aim) (k : ℕ) (chosen undecided : List ℕ) (champion result : Kept) → offer.menu.courses ≤ length chosen
    → IsSearched offer aim k chosen [] champion result → IsSearched offer aim k chosen undecided champion result
full_to_end offer aim k chosen [] champion result full ended = ended
full_to_end offer aim k chosen (s ∷ undecided) champion result full ended =
    inr (inr (none_fits offer chosen s full, full_to_end offer aim (k + 1) chosen undecided champion result full ended))

module _ (offer : OfferData) (aim : Aim) (k : ℕ) (chosen : List ℕ) where
  -- all places are decided
  pub ended_here : (champion result : Kept) → length offer.menu.places ≤ k → IsSearched offer aim k chosen [] champion result
      → IsSearched offer aim k chosen (drop k (menu_sections offer.menu)) champion result
  ended_here champion result past ended =
      subst (λ later. IsSearched offer aim k chosen later champion result) (sym (none_undecided offer.menu.places k past)) ended

  module _ (low : k < length offer.menu.places) where
    pruned_branch : (champion : Kept) → MayBePruned offer aim k chosen champion
        → IsSearched offer aim k chosen (section_at offer.menu.places k ∷ drop (k + 1) (menu_sections offer.menu)) champion champion
    pruned_branch champion may = inl (may, refl)

    -- the node is pruned
    pub pruned_here : (champion : Kept) → MayBePruned offer aim k chosen champion
        → IsSearched offer aim k chosen (drop k (menu_sections offer.menu)) champion champion
    pruned_here champion may =
        subst (λ later. IsSearched offer aim k chosen later champion champion) (sym (next_section offer.menu.places k low)) (pruned_branch champion may)

    shut_branch : (champion result : Kept) → (IsTakable offer (chosen ++ section_at offer.menu.places k ∷ []) → ⊥)
        → IsSearched offer aim (k + 1) chosen (drop (k + 1) (menu_sections offer.menu)) champion result
        → IsSearched offer aim k chosen (section_at offer.menu.places k ∷ drop (k + 1) (menu_sections offer.menu)) champion result
    shut_branch champion result shut without = inr (inr (shut, without))

    -- the next section may not be taken
    pub shut_here : (champion result : Kept) → (IsTakable offer (chosen ++ section_at offer.menu.places k ∷ []) → ⊥)
        → IsSearched offer aim (k + 1) chosen (drop (k + 1) (menu_sections offer.menu)) champion result
        → IsSearched offer aim k chosen (drop k (menu_sections offer.menu)) champion result
    shut_here champion result shut without =
        subst (λ later. IsSearched offer aim k chosen later champion result) (sym (next_section offer.menu.places k low))
        (shut_branch champion result shut without)

    open_branch : (champion between result : Kept) → IsTakable offer (chosen ++ section_at offer.menu.places k ∷ [])
        → IsSearched offer aim (k + 1) (chosen ++ section_at offer.menu.places k ∷ []) (drop (k + 1) (menu_sections offer.menu)) champion between
        → IsSearched offer aim (k + 1) chosen (drop (k + 1) (menu_sections offer.menu)) between result
        → IsSearched offer aim k chosen (section_at offer.menu.places k ∷ drop (k + 1) (menu_sections offer.menu)) champion result
    open_branch champion between result takable with_it without = inr (inl (between, takable, with_it, without))

    -- the next section may be taken
    pub open_here : (champion between result : Kept) → IsTakable offer (chosen ++ section_at offer.menu.places k ∷ [])
        → IsSearched offer aim (k + 1) (chosen ++ section_at offer.menu.places k ∷ []) (drop (k + 1) (menu_sections offer.menu)) champion between
        → IsSearched offer aim (k + 1) chosen (drop (k + 1) (menu_sections offer.menu)) between result
        → IsSearched offer aim k chosen (drop k (menu_sections offer.menu)) champion result
    open_here champion between result takable with_it without =
        subst (λ later. IsSearched offer aim k chosen later champion result) (sym (next_section offer.menu.places k low))
        (open_branch champion between result takable with_it without)
