-- What the tests of a node say.
use Rattle.std.proofs.Common.{◌≡◌, ◌↔◌, ℕ, Bool, false, Option, List, length, sym, ◌∙◌}
use Rattle.std.specs.Prelude.{IsTrue}
use Rattle.std.proofs.lemmas.Bool.{true≢false}
use Rattle.bundle_rules.specs.Menus.{IsMenu}
use Rattle.bundle_bounds.specs.Offers.{OfferData, places_of}
use Rattle.bundle_bounds.specs.Laws.{IsTakable}
use Rattle.proof_tree.specs.Trees.{IsChampionsEnd, IsShut, IsUnsettled}
use Rattle.proof_tree.proofs.Nodes.{same_bundle}

module _ (offer : OfferData) (menu : IsMenu offer.menu) (required : Option ℕ) (k : ℕ) (chosen champion : List ℕ) (may : IsTakable offer chosen)
    (may' : IsTakable offer champion) where
  pub not_end : (r : Bool) → (IsTrue r ↔ ((k ≡ length offer.menu.places) × (chosen ≡ champion))) → r ≡ false
      → IsChampionsEnd offer (places_of offer.menu champion) k (places_of offer.menu chosen) → ⊥
  not_end r tells none end = true≢false (sym (tells.1 (end.0, same_bundle offer menu chosen champion may may' end.1)) ∙ none)

  pub not_settled : (r s : Bool) → (IsTrue r ↔ ((k ≡ length offer.menu.places) × (chosen ≡ champion))) → r ≡ false
      → (IsTrue s ↔ IsShut offer required k (places_of offer.menu chosen)) → s ≡ false
      → IsUnsettled offer required (places_of offer.menu champion) k (places_of offer.menu chosen)
  not_settled r s tells none tells' none' = record { no_end = not_end r tells none; not_shut = λ shut. true≢false (sym (tells'.1 shut) ∙ none') }
