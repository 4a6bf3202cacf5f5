-- A champion with a tree is as good as all that completes the node.
use Rattle.std.proofs.Common.{◌≡◌, ◌<◌, ◌≤◌, ◌+◌, ◌++◌, ℕ, true, Option, Some, List, [], ◌∷◌, length, refl, sym, ◌∙◌, subst, inl, inr, arith}
use Rattle.std.proofs.lemmas.Bool.{cases_Bool, false≢true}
use Rattle.market_units.specs.Members.{has}
use Rattle.bundle_rules.specs.Menus.{IsMenu, section_at}
use Rattle.bundle_bounds.specs.Offers.{OfferData, places_of}
use Rattle.bundle_bounds.specs.Opens.{is_open}
use Rattle.bundle_bounds.specs.Laws.{IsTakable, IsNode, Completes}
use Rattle.bundle_bounds.specs.Prunings.{IsAsGood}
use Rattle.bundle_bounds.proofs.Openings.{open_facts, takable_where_open, node_with, node_without}
use Rattle.bundle_bounds.proofs.PrunesSoundly.{bounds_prune_soundly}
use Rattle.proof_tree.specs.Trees.{Tree, Wins, Bars, Cuts, Takes, Splits, Passes, IsTree}
use Rattle.proof_tree.proofs.Nodes.{same_bundle, places_with, open_where_more, chosen_where_none_left, completes_with, completes_without}

-- the bundle has the section of the required place, where there is one
abbrev pub HasRequired : OfferData → Option ℕ → List ℕ → Type 0
HasRequired offer required bundle = (place : ℕ) → required ≡ Some place → has bundle (section_at offer.menu.places place) ≡ true

-- a required place is on the menu
abbrev pub IsOnMenu : OfferData → Option ℕ → Type 0
IsOnMenu offer required = (place : ℕ) → required ≡ Some place → place < length offer.menu.places

module _ (offer : OfferData) (menu : IsMenu offer.menu) (required : Option ℕ) (on : IsOnMenu offer required) (champion : List ℕ)
    (takable : IsTakable offer champion) where
  -- the node with the next place, where that is open
  pub node_where_open : (k : ℕ) (chosen : List ℕ) → IsNode offer k chosen → k < length offer.menu.places → is_open offer (places_of offer.menu chosen) k ≡ true
      → IsNode offer (k + 1) (chosen ++ section_at offer.menu.places k ∷ [])
  node_where_open k chosen node low is =
      node_with offer k chosen menu low node (takable_where_open offer menu k chosen node low (open_facts offer (places_of offer.menu chosen) k is))

  pub tree_is_sound : (tree : Tree) (k : ℕ) (chosen : List ℕ) → IsNode offer k chosen → k ≤ length offer.menu.places
      → IsTree offer required (places_of offer.menu champion) k (places_of offer.menu chosen) tree
      → (bundle : List ℕ) → IsTakable offer bundle → HasRequired offer required bundle → Completes offer k chosen bundle → IsAsGood offer champion bundle
  tree_is_sound Wins k chosen node within is bundle may has_it completes =
      inl (same_bundle offer menu bundle champion may takable (chosen_where_none_left offer menu k chosen node bundle may completes is.0 ∙ is.1))
  tree_is_sound Bars k chosen node within is bundle may has_it completes =
      absurd (false≢true (sym is.1.3 ∙ open_where_more offer menu k chosen node bundle may completes is.1.0 is.1.2 (on is.1.0 is.1.1) (has_it is.1.0 is.1.1)))
  tree_is_sound (Cuts leaf) k chosen node within is bundle may has_it completes =
      bounds_prune_soundly offer (λ b. true) k chosen champion leaf menu node takable is.1 bundle may refl completes
  tree_is_sound (Takes with_it) k chosen node within is bundle may has_it completes =
      let low : k < length offer.menu.places = is.0.0.left in
      let open_ : is_open offer (places_of offer.menu chosen) k ≡ true =
      (elim (cases_Bool (is_open offer (places_of offer.menu chosen) k))
      [ inl is_so ↦ is_so | inr none ↦ absurd (is.0.0.unsettled.not_shut (k, is.0.1, omega arith, none)) ]) in
      tree_is_sound with_it (k + 1) (chosen ++ section_at offer.menu.places k ∷ []) (node_where_open k chosen node low open_) (omega arith)
      (subst (λ cs. IsTree offer required (places_of offer.menu champion) (k + 1) cs with_it) (sym (places_with offer menu k chosen low)) is.1) bundle may
      has_it
      (completes_with offer menu k chosen node bundle may completes low (has_it k is.0.1))
  tree_is_sound (Splits with_it without) k chosen node within is bundle may has_it completes =
      let low : k < length offer.menu.places = is.0.0.left in
      elim (cases_Bool (has bundle (section_at offer.menu.places k))) [
        | inl in_it ↦
            tree_is_sound with_it (k + 1) (chosen ++ section_at offer.menu.places k ∷ []) (node_where_open k chosen node low is.0.2) (omega arith)
            (subst (λ cs. IsTree offer required (places_of offer.menu champion) (k + 1) cs with_it) (sym (places_with offer menu k chosen low)) is.1) bundle may
            has_it
            (completes_with offer menu k chosen node bundle may completes low in_it)
        | inr lacks ↦
            tree_is_sound without (k + 1) chosen (node_without offer k chosen node) (omega arith) is.2 bundle may has_it
            (completes_without offer menu k chosen node bundle may completes low lacks)
      ]
  tree_is_sound (Passes without) k chosen node within is bundle may has_it completes =
      let low : k < length offer.menu.places = is.0.0.left in
      elim (cases_Bool (has bundle (section_at offer.menu.places k))) [
        | inl in_it ↦ absurd (false≢true (sym is.0.2 ∙ open_where_more offer menu k chosen node bundle may completes k (omega arith) low in_it))
        | inr lacks ↦
            tree_is_sound without (k + 1) chosen (node_without offer k chosen node) (omega arith) is.1 bundle may has_it
            (completes_without offer menu k chosen node bundle may completes low lacks)
      ]
