-- Where nothing that completes a node is wanted.
use Rattle.std.proofs.Common.{◌≡◌, ◌<◌, ◌≤◌, ◌+◌, ◌++◌, ℕ, true, false, List, [], ◌∷◌, length, refl, sym, ◌∙◌, subst, inl, inr, arith}
use Rattle.std.proofs.lemmas.Bool.{cases_Bool, true≢false}
use Rattle.market_units.specs.Members.{has}
use Rattle.bundle_rules.specs.Sets.{IsAscending}
use Rattle.bundle_rules.specs.Menus.{IsMenu, wishes_of, section_at, place_in}
use Rattle.bundle_rules.specs.Existence.Places.{section_at-place_in}
use Rattle.bundle_rules.proofs.Parts.{IsPart, choice_part}
use Rattle.bundle_rules.proofs.PlacesFirst.{section_at-rises}
use Rattle.bundle_bounds.specs.Offers.{OfferData}
use Rattle.bundle_bounds.specs.Laws.{IsTakable, IsNode, Completes}
use Rattle.bundle_bounds.proofs.ByPlace.{on_menu, place_in-section_at}
use Rattle.bundle_bounds.proofs.Openings.{ascending-last}
use Rattle.demand_oracle.specs.Search.{Aim, Kept, IsSearched, MayBePruned}
use Rattle.market_units.proofs.Memberships.{has_push}

module _ (offer : OfferData) (aim : Aim) where
  -- such a node changes no champion
  pub none_wanted : (k : ℕ) (chosen undecided : List ℕ) (champion : Kept) → IsNode offer k chosen
      → ((bundle : List ℕ) → IsTakable offer bundle → Completes offer k chosen bundle → aim.wanted bundle ≡ false)
      → IsSearched offer aim k chosen undecided champion champion
  none_wanted k chosen [] champion node none = record {
    own = λ is_wanted. absurd (true≢false (sym is_wanted ∙ none chosen node.takable (λ place low on. refl)));
    before = λ bundle is. is;
    from = λ bundle is. inl is;
  }
  none_wanted k chosen (s ∷ undecided) champion node none =
      inl ((λ bundle may is_wanted completes. absurd (true≢false (sym is_wanted ∙ none bundle may completes))), refl)

module _ (offer : OfferData) (menu : IsMenu offer.menu) (place : ℕ) (on : place < length offer.menu.places) where
  -- what does without a place lacks its section
  pub lacks_passed : (chosen : List ℕ) → IsNode offer place chosen → (bundle : List ℕ) → IsTakable offer bundle → Completes offer (place + 1) chosen bundle
      → has bundle (section_at offer.menu.places place) ≡ false
  lacks_passed chosen node bundle may completes = completes place (omega arith) on ∙ elim (cases_Bool (has chosen (section_at offer.menu.places place))) [
    | inl is ↦
        let decided : place_in offer.menu.places (section_at offer.menu.places place) < place = node.decided (section_at offer.menu.places place) is in
        let own : place_in offer.menu.places (section_at offer.menu.places place) ≡ place =
        place_in-section_at offer.menu.places place menu.places.ascending on in
        absurd (omega arith)
    | inr not_in ↦ not_in
  ]

  module _ (k : ℕ) (chosen : List ℕ) (node : IsNode offer k chosen) (later : k ≤ place) where
    below : (t : ℕ) → has chosen t ≡ true → t < section_at offer.menu.places place
    below t is =
        let decided : place_in offer.menu.places t < k = node.decided t is in
        let at : section_at offer.menu.places (place_in offer.menu.places t) ≡ t =
        section_at-place_in offer.menu.places t (on_menu offer chosen node.takable t is) in
        subst (λ x. x < section_at offer.menu.places place) at
        (section_at-rises offer.menu.places (place_in offer.menu.places t) place menu.places.ascending (omega arith) on)

    -- a bundle that completes a node and has the section of an undecided place has all of the chosen ones with it
    part : (bundle : List ℕ) → Completes offer k chosen bundle → has bundle (section_at offer.menu.places place) ≡ true
        → IsPart (chosen ++ section_at offer.menu.places place ∷ []) bundle
    part bundle completes has_it t is = elim (has_push chosen (section_at offer.menu.places place) t is) [
      | inl before ↦
          let listed = on_menu offer chosen node.takable t before in
          let at : section_at offer.menu.places (place_in offer.menu.places t) ≡ t = section_at-place_in offer.menu.places t listed in
          subst (λ x. has bundle x ≡ has chosen x) at (completes (place_in offer.menu.places t) (node.decided t before) listed) ∙ before
      | inr last ↦ subst (λ x. has bundle x ≡ true) last has_it
    ]

    -- so where these may not be taken, what completes the node lacks the section
    pub lacks_lost : (IsTakable offer (chosen ++ section_at offer.menu.places place ∷ []) → ⊥) → (bundle : List ℕ) → IsTakable offer bundle
        → Completes offer k chosen bundle → has bundle (section_at offer.menu.places place) ≡ false
    lacks_lost lost bundle may completes = elim (cases_Bool (has bundle (section_at offer.menu.places place))) [
      | inl is ↦
          let up : IsAscending (chosen ++ section_at offer.menu.places place ∷ []) =
          ascending-last chosen (section_at offer.menu.places place) node.takable.feasible.set below in
          absurd
          (lost
          (choice_part (wishes_of offer.menu) offer.price offer.budget offer.allowed (chosen ++ section_at offer.menu.places place ∷ []) bundle up
          (part bundle completes is) may))
      | inr not_in ↦ not_in
    ]

    -- and the node may be pruned where only bundles with the section are wanted
    pub lost_prunes : (aim : Aim) → ((bundle : List ℕ) → aim.wanted bundle ≡ true → has bundle (section_at offer.menu.places place) ≡ true)
        → (IsTakable offer (chosen ++ section_at offer.menu.places place ∷ []) → ⊥) → (champion : Kept) → MayBePruned offer aim k chosen champion
    lost_prunes aim has_it lost champion bundle may is_wanted completes =
        absurd (true≢false (sym (has_it bundle is_wanted) ∙ lacks_lost lost bundle may completes))
