-- Where a bound prunes a node, the champion is as good as all that completes it.
use Rattle.std.proofs.Common.{◌≡◌, ◌<◌, ◌≤◌, ℕ, false, List, [], ◌∷◌, length, sym, ◌∙◌, ap, subst, inl, inr, arith}
use Rattle.std.specs.Prelude.{ℤ, pos, ◌+ℤ◌, ◌*ℤ◌, ◌<ℤ◌, ◌≤ℤ◌}
use Rattle.std.proofs.lemmas.Int.{ints}
use Rattle.std.proofs.lemmas.Bool.{cases_Bool, cases_lt}
use Rattle.market_units.specs.Members.{has}
use Rattle.bundle_rules.specs.Sets.{DiffersFirstIn}
use Rattle.bundle_rules.specs.Wishes.{utility}
use Rattle.bundle_rules.specs.Menus.{IsMenu, wishes_of, by_place, section_at, place_in}
use Rattle.bundle_rules.specs.Existence.Places.{section_at-place_in}
use Rattle.bundle_rules.specs.Existence.Orders.{int_order}
use Rattle.bundle_rules.specs.Ahead.{IsAhead}
use Rattle.bundle_rules.proofs.Feasibility.{utility_by_place}
use Rattle.bundle_rules.proofs.PlacesFirst.{place_in-rises}
use Rattle.bundle_bounds.specs.declared.nodes.Leaf.{Leaf}
use Rattle.bundle_bounds.specs.Offers.{OfferData, places_of}
use Rattle.bundle_bounds.specs.Bounds.{bounds, Prunes, IsFirstPruning}
use Rattle.bundle_bounds.specs.Laws.{IsTakable, IsNode, Completes, EachAtLeast}
use Rattle.bundle_bounds.proofs.ByPlace.{place_in-section_at, on_menu, taken_places, has_by_place}
use Rattle.bundle_bounds.proofs.Soundness.{bound_soundness}
use Rattle.bundle_bounds.specs.Prunings.{IsAsGood}
use Rattle.bundle_bounds.specs.PruningLaws.{BoundsPruneSoundly}

-- a bound that prunes the node and is at least this number
record PrunesAbove (offer : OfferData) (k : ℕ) (chosen champion : List ℕ) (least : ℤ) : Type 0 where
  bound : ℤ
  above : least ≤ℤ bound
  prunes : Prunes offer k chosen champion bound

first_prunes : (offer : OfferData) (k : ℕ) (chosen champion : List ℕ) (least : ℤ) (leaf : Leaf) (bs : List (Leaf × ℤ))
    → IsFirstPruning offer k chosen champion bs leaf → EachAtLeast least bs → PrunesAbove offer k chosen champion least
first_prunes offer k chosen champion least leaf [] first each = absurd first
first_prunes offer k chosen champion least leaf (b ∷ bs) (inl here) each = record { bound = b.1; above = each.0; prunes = here.0 }
first_prunes offer k chosen champion least leaf (b ∷ bs) (inr later) each = first_prunes offer k chosen champion least leaf bs later.1 each.1

module _ (offer : OfferData) (menu : IsMenu offer.menu) (k : ℕ) (chosen champion : List ℕ) (node : IsNode offer k chosen) (takable : IsTakable offer champion) where
  -- where the champion has the first decided difference, it has the first difference from all that completes the node
  pub differs_first : (bundle : List ℕ) → IsTakable offer bundle → Completes offer k chosen bundle
      → IsAhead k (places_of offer.menu champion) (places_of offer.menu chosen) → DiffersFirstIn champion bundle
  differs_first bundle may completes ahead = (
    s,
    by_champion d on ∙ ahead.2,
    completes d ahead.1 on ∙ by_chosen d on ∙ ahead.3,
    below,
  )
    where
      d : ℕ
      d = ahead.0

      s : ℕ
      s = section_at offer.menu.places ahead.0

      on : ahead.0 < length offer.menu.places
      on = (taken_places offer champion menu takable).on_menu ahead.0 ahead.2

      by_champion : (p : ℕ) → p < length offer.menu.places → has champion (section_at offer.menu.places p) ≡ has (places_of offer.menu champion) p
      by_champion p low = sym (has_by_place offer.menu.places champion p menu.places.ascending (on_menu offer champion takable) low)

      by_chosen : (p : ℕ) → p < length offer.menu.places → has chosen (section_at offer.menu.places p) ≡ has (places_of offer.menu chosen) p
      by_chosen p low = sym (has_by_place offer.menu.places chosen p menu.places.ascending (on_menu offer chosen node.takable) low)

      off_menu : (b : List ℕ) → IsTakable offer b → (t : ℕ) → length offer.menu.places ≤ place_in offer.menu.places t → has b t ≡ false
      off_menu b is t off = elim (cases_Bool (has b t)) [
        | inl in_it ↦ let low : place_in offer.menu.places t < length offer.menu.places = on_menu offer b is t in_it in absurd (omega arith)
        | inr none ↦ none
      ]

      below : (t : ℕ) → t < section_at offer.menu.places ahead.0 → has champion t ≡ has bundle t
      below t low = elim (cases_lt (place_in offer.menu.places t) (length offer.menu.places)) [
        | inl listed ↦
            let p : ℕ = place_in offer.menu.places t in
            let back : section_at offer.menu.places p ≡ t = section_at-place_in offer.menu.places t listed in
            let own : place_in offer.menu.places (section_at offer.menu.places ahead.0) ≡ ahead.0 =
            place_in-section_at offer.menu.places ahead.0 menu.places.ascending on in
            let rises : place_in offer.menu.places t < place_in offer.menu.places (section_at offer.menu.places ahead.0) =
            place_in-rises offer.menu.places t (section_at offer.menu.places ahead.0) menu.places.ascending listed
            (subst (λ n. n < length offer.menu.places) (sym own) on) low in
            let early : p < ahead.0 = subst (λ n. place_in offer.menu.places t < n) own rises in
            let decided : ahead.0 < k = ahead.1 in
            let low_k : p < k = omega arith in
            ap (has champion) (sym back) ∙ by_champion p listed ∙ ahead.4 p early ∙ sym (by_chosen p listed) ∙ sym (completes p low_k listed)
            ∙ ap (has bundle) back
        | inr off ↦ off_menu champion takable t off ∙ sym (off_menu bundle may t off)
      ]

  pruned_by : (bundle : List ℕ) → IsTakable offer bundle → Completes offer k chosen bundle → (bound : ℤ)
      → (pos 1000 *ℤ utility (wishes_of offer.menu) bundle) ≤ℤ bound
      → Prunes offer k (places_of offer.menu chosen) (places_of offer.menu champion) bound → IsAsGood offer champion bundle
  pruned_by bundle may completes bound least (inl under) =
      let u : ℤ = utility (wishes_of offer.menu) bundle in
      let m : ℤ = utility (by_place offer.menu) (places_of offer.menu champion) in
      let m' : ℤ = utility (wishes_of offer.menu) champion in
      let same : m ≡ m' = utility_by_place offer.menu champion in
      let least' : (pos 1000 *ℤ u) ≤ℤ bound = least in
      let under' : bound <ℤ (pos 1000 *ℤ m) = under in
      let less : u <ℤ m = omega (arith, ints) in
      inr (inl (subst (λ z. u <ℤ z) same less))
  pruned_by bundle may completes bound least (inr ahead) =
      let u : ℤ = utility (wishes_of offer.menu) bundle in
      let m : ℤ = utility (by_place offer.menu) (places_of offer.menu champion) in
      let m' : ℤ = utility (wishes_of offer.menu) champion in
      let same : m ≡ m' = utility_by_place offer.menu champion in
      let least' : (pos 1000 *ℤ u) ≤ℤ bound = least in
      let under' : bound <ℤ (pos 1000 *ℤ (m +ℤ pos 1)) = ahead.0 in
      let no_more : u ≤ℤ m = omega (arith, ints) in
      elim (int_order u m) [
        | inl less ↦ inr (inl (subst (λ z. u <ℤ z) same less))
        | inr (inl equal) ↦ inr (inr (sym (equal ∙ same), differs_first bundle may completes ahead.1))
        | inr (inr more) ↦ absurd (omega (arith, ints))
      ]

pub bounds_prune_soundly : BoundsPruneSoundly
bounds_prune_soundly offer wanted k chosen champion leaf menu node takable first bundle may is_wanted completes =
    let least : ℤ = pos 1000 *ℤ utility (wishes_of offer.menu) bundle in
    let at =
    first_prunes offer k (places_of offer.menu chosen) (places_of offer.menu champion) least leaf (bounds offer k (places_of offer.menu chosen)) first
    (bound_soundness offer k chosen bundle menu node may completes) in
    pruned_by offer menu k chosen champion node takable bundle may completes at.bound at.above at.prunes
