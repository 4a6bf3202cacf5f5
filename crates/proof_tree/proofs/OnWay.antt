-- On the champion's way no bound prunes: each is at least what the champion itself is worth.
use Rattle.std.proofs.Common.{◌≡◌, ◌<◌, ◌≤◌, ◌-◌, ℕ, suc, IsTrue, List, [], ◌∷◌, length, take, drop, slice_index_or, sym, ◌∙◌, ap, subst, inl, inr, arith}
use Rattle.std.specs.Prelude.{nat_le}
use Rattle.std.proofs.Math.Seq.{take-length}
use Rattle.std.proofs.lemmas.Bool.Decides.{nat_tests}
use Rattle.market_units.specs.declared.units.SectionNo.{SectionNo}
use Rattle.bundle_rules.specs.Ordinals.{ordinals}
use Rattle.bundle_rules.specs.Sets.{IsAscending}
use Rattle.bundle_rules.specs.Existence.Orders.{below_head}
use Rattle.std.specs.Prelude.{ℤ, pos, ◌*ℤ◌, ◌<ℤ◌, ◌≤ℤ◌}
use Rattle.std.proofs.lemmas.Int.{ints}
use Rattle.std.proofs.lemmas.Bool.{true≢false}
use Rattle.market_units.specs.Members.{has}
use Rattle.bundle_rules.specs.Ahead.{IsAhead}
use Rattle.bundle_rules.specs.Wishes.{utility}
use Rattle.bundle_rules.specs.Menus.{IsMenu, wishes_of, by_place, section_at}
use Rattle.bundle_rules.proofs.Feasibility.{utility_by_place}
use Rattle.bundle_bounds.specs.declared.nodes.Leaf.{Leaf}
use Rattle.bundle_bounds.specs.Offers.{OfferData, places_of}
use Rattle.bundle_bounds.specs.Bounds.{bounds, Prunes, NonePrunes}
use Rattle.bundle_bounds.specs.Laws.{IsTakable, IsNode, Completes, EachAtLeast}
use Rattle.bundle_bounds.proofs.ByPlace.{on_menu, taken_places, has_by_place}
use Rattle.bundle_bounds.proofs.Soundness.{bound_soundness}

none_from : (offer : OfferData) (k : ℕ) (cs ch : List ℕ) (least : ℤ) → ((bound : ℤ) → least ≤ℤ bound → ¬ Prunes offer k cs ch bound)
    → (bs : List (Leaf × ℤ)) → EachAtLeast least bs → NonePrunes offer k cs ch bs
none_from offer k cs ch least not [] each = tt
none_from offer k cs ch least not (b ∷ bs) each = (not b.1 each.0, none_from offer k cs ch least not bs each.1)

module _ (offer : OfferData) (menu : IsMenu offer.menu) (k : ℕ) (chosen champion : List ℕ) (node : IsNode offer k chosen) (takable : IsTakable offer champion) (completes : Completes offer k chosen champion) where
  not_ahead : ¬ IsAhead k (places_of offer.menu champion) (places_of offer.menu chosen)
  not_ahead ahead = true≢false (sym ahead.2 ∙ by_champion ∙ completes d ahead.1 on ∙ sym by_chosen ∙ ahead.3)
    where
      d : ℕ
      d = ahead.0

      on : ahead.0 < length offer.menu.places
      on = (taken_places offer champion menu takable).on_menu ahead.0 ahead.2

      by_champion : has (places_of offer.menu champion) ahead.0 ≡ has champion (section_at offer.menu.places ahead.0)
      by_champion = has_by_place offer.menu.places champion ahead.0 menu.places.ascending (on_menu offer champion takable) on

      by_chosen : has (places_of offer.menu chosen) ahead.0 ≡ has chosen (section_at offer.menu.places ahead.0)
      by_chosen = has_by_place offer.menu.places chosen ahead.0 menu.places.ascending (on_menu offer chosen node.takable) on

  not_pruned : (bound : ℤ) → (pos 1000 *ℤ utility (wishes_of offer.menu) champion) ≤ℤ bound
      → ¬ Prunes offer k (places_of offer.menu chosen) (places_of offer.menu champion) bound
  not_pruned bound least (inl under) =
      let m : ℤ = utility (by_place offer.menu) (places_of offer.menu champion) in
      let m' : ℤ = utility (wishes_of offer.menu) champion in
      let same : m ≡ m' = utility_by_place offer.menu champion in
      let least' : (pos 1000 *ℤ m') ≤ℤ bound = least in
      let under' : bound <ℤ (pos 1000 *ℤ m) = under in
      omega (arith, ints)
  not_pruned bound least (inr ahead) = not_ahead ahead.1

  pub none_prunes_on_way : NonePrunes offer k (places_of offer.menu chosen) (places_of offer.menu champion) (bounds offer k (places_of offer.menu chosen))
  none_prunes_on_way =
      none_from offer k (places_of offer.menu chosen) (places_of offer.menu champion) (pos 1000 *ℤ utility (wishes_of offer.menu) champion) not_pruned
      (bounds offer k (places_of offer.menu chosen)) (bound_soundness offer k chosen champion menu node takable completes)

-- the rest of an ascending list ascends
pub ascending_rest : (xs : List SectionNo) → 1 ≤ length xs → IsAscending (ordinals xs) → IsAscending (ordinals (take (length xs - 1) (drop 1 xs)))
ascending_rest [] some up = absurd (omega arith)
ascending_rest (x ∷ xs) some up = subst (λ l. IsAscending (ordinals l)) (rest_is xs) up.1
  where
    rest_is : (xs : List SectionNo) → xs ≡ take (suc (length xs) - 1) xs
    rest_is xs = sym (take-length xs) ∙ ap (λ n. take n xs) (let h : length xs ≡ suc (length xs) - 1 = omega arith in h)

-- below the first of an ascending list there is none
pub none_before : (xs ys : List SectionNo) (d : SectionNo) (next : ℕ) → 1 ≤ length xs → IsAscending (ordinals xs) → length ys < 1
    → IsTrue (nat_le next (slice_index_or xs 0 d).0) → (s : ℕ) → s < next → has (ordinals xs) s ≡ has (ordinals ys) s
none_before [] ys d next some up none at s low = absurd (omega arith)
none_before (x ∷ xs) (y ∷ ys) d next some up none at s low = absurd (omega arith)
none_before (x ∷ xs) [] d next some up none at s low = below_head x.0 (ordinals xs) up.0 s (let least : next ≤ x.0 = grind (arith, nat_tests) in omega arith)
