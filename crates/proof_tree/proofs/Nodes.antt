-- What completes a node, by its places.
use Rattle.std.proofs.Common.{◌≡◌, ◌<◌, ◌≤◌, ◌+◌, ◌++◌, ◌⊎◌, ℕ, true, false, List, [], ◌∷◌, length, map, refl, sym, ◌∙◌, ap, subst, inl, inr, arith}
use Rattle.std.proofs.lemmas.Bool.{cases_Bool, cases_lt, false≢true}
use Rattle.std.proofs.lemmas.List.{map-append, append-nil}
use Rattle.bundle_rules.specs.declared.menu.Rated.{Rated}
use Rattle.market_units.specs.Members.{has}
use Rattle.bundle_rules.specs.Menus.{IsMenu, section_at, place_in}
use Rattle.bundle_rules.specs.Existence.Members.{has-here, has-there, has-cases}
use Rattle.bundle_rules.specs.Existence.Places.{section_at-place_in}
use Rattle.bundle_bounds.specs.Offers.{OfferData, places_of}
use Rattle.bundle_bounds.specs.Opens.{is_open}
use Rattle.bundle_bounds.specs.Laws.{IsTakable, IsNode, Completes}
use Rattle.bundle_rules.proofs.PlacesFirst.{AllOnMenu, section_at-rises}
use Rattle.bundle_bounds.proofs.Openness.{MayBeTaken, front_of, is_open-more}
use Rattle.bundle_bounds.proofs.ByPlace.{place_in-section_at, has-places, has_by_place, on_menu, taken_places}
use Rattle.bundle_bounds.proofs.Soundness.{same_below}
use Rattle.market_units.proofs.Memberships.{has_push_other, has_push_same}

has_either : (xs ys : List ℕ) (s : ℕ) → has (xs ++ ys) s ≡ true → (has xs s ≡ true) ⊎ (has ys s ≡ true)
has_either [] ys s is = inr is
has_either (x ∷ xs) ys s is = elim (has-cases x (xs ++ ys) s is) [
  | inl here ↦ inl (rw here (has-here s xs))
  | inr there ↦ elim (has_either xs ys s there) [ inl first ↦ inl (has-there x xs s first) | inr second ↦ inr second ]
]

-- the sections of a bundle's places are the bundle
sections_back : (places : List Rated) (ss : List ℕ) → AllOnMenu places ss → map (section_at places) (map (place_in places) ss) ≡ ss
sections_back places [] all = refl
sections_back places (s ∷ ss) all =
    rw (section_at-place_in places s (all s (has-here s ss)), sections_back places ss (λ t is. all t (has-there s ss t is))) refl

module _ (offer : OfferData) (menu : IsMenu offer.menu) where
  -- bundles of the same places are the same
  pub same_bundle : (a b : List ℕ) → IsTakable offer a → IsTakable offer b → places_of offer.menu a ≡ places_of offer.menu b → a ≡ b
  same_bundle a b may may' same =
      sym (sections_back offer.menu.places a (on_menu offer a may)) ∙ ap (map (section_at offer.menu.places)) same
      ∙ sections_back offer.menu.places b (on_menu offer b may')

  -- the places with one more section
  pub places_with : (k : ℕ) (chosen : List ℕ) → k < length offer.menu.places
      → places_of offer.menu (chosen ++ section_at offer.menu.places k ∷ []) ≡ places_of offer.menu chosen ++ k ∷ []
  places_with k chosen low =
      map-append (place_in offer.menu.places) chosen (section_at offer.menu.places k ∷ [])
      ∙ ap (λ p. places_of offer.menu chosen ++ p ∷ []) (place_in-section_at offer.menu.places k menu.places.ascending low)

  none_past : (p : ℕ) (ss : List ℕ) → IsTakable offer ss → length offer.menu.places ≤ p → has (places_of offer.menu ss) p ≡ false
  none_past p ss take off =
      elim (cases_Bool (has (places_of offer.menu ss) p)) [
        | inl is ↦ let on = (taken_places offer ss menu take).on_menu p is in absurd (omega arith)
        | inr not_in ↦ not_in
      ]

  module _ (k : ℕ) (chosen : List ℕ) (node : IsNode offer k chosen) where
    pub places_low : (c : ℕ) → has (places_of offer.menu chosen) c ≡ true → c < k
    places_low c is = let at = has-places offer.menu.places chosen c is in rw (← at.2) (node.decided at.0 at.1)

    -- the next section is not among the chosen ones
    pub next_not_chosen : k < length offer.menu.places → has chosen (section_at offer.menu.places k) ≡ false
    next_not_chosen low =
        elim (cases_Bool (has chosen (section_at offer.menu.places k))) [
          | inl is ↦
              let below : place_in offer.menu.places (section_at offer.menu.places k) < k = node.decided (section_at offer.menu.places k) is in
              let at : place_in offer.menu.places (section_at offer.menu.places k) ≡ k = place_in-section_at offer.menu.places k menu.places.ascending low in
              absurd (omega arith)
          | inr none ↦ none
        ]

    module _ (bundle : List ℕ) (may : IsTakable offer bundle) (completes : Completes offer k chosen bundle) where
      -- the places of what completes a node are the chosen ones, and undecided ones after them
      front : (ds : List ℕ) × (places_of offer.menu bundle ≡ places_of offer.menu chosen ++ ds) × ((d : ℕ) → has ds d ≡ true → k ≤ d)
      front =
          front_of k (places_of offer.menu chosen) (places_of offer.menu bundle) (taken_places offer chosen menu node.takable).ascending
          (taken_places offer bundle menu may).ascending places_low (same_below offer k chosen bundle menu node.takable may completes)

      -- an undecided section of it is at an open place
      pub open_where_more : (p : ℕ) → k ≤ p → p < length offer.menu.places → has bundle (section_at offer.menu.places p) ≡ true
          → is_open offer (places_of offer.menu chosen) p ≡ true
      open_where_more p past low is =
          let in_all : has (places_of offer.menu chosen ++ front.0) p ≡ true =
          ap (λ ps. has ps p) (sym front.1) ∙ has_by_place offer.menu.places bundle p menu.places.ascending (on_menu offer bundle may) low ∙ is in
          elim (has_either (places_of offer.menu chosen) front.0 p in_all) [
            | inl decided ↦ let below : p < k = places_low p decided in absurd (omega arith)
            | inr later ↦
                is_open-more offer k (places_of offer.menu chosen) front.0 (subst (MayBeTaken offer) front.1 (taken_places offer bundle menu may)) places_low
                front.2 p later
          ]

      -- where all places are decided it has the chosen places alone
      pub chosen_where_none_left : k ≡ length offer.menu.places → places_of offer.menu bundle ≡ places_of offer.menu chosen
      chosen_where_none_left all = none_after front.0 front.1 front.2
        where
          none_after : (ds : List ℕ) → places_of offer.menu bundle ≡ places_of offer.menu chosen ++ ds → ((d : ℕ) → has ds d ≡ true → k ≤ d)
              → places_of offer.menu bundle ≡ places_of offer.menu chosen
          none_after [] whole high = whole ∙ append-nil (places_of offer.menu chosen)
          none_after (d ∷ ds) whole high =
              let past : k ≤ d = high d (has-here d ds) in
              let none : has (places_of offer.menu bundle) d ≡ false = none_past d bundle may (omega arith) in
              absurd (false≢true (sym none ∙ ap (λ ps. has ps d) whole ∙ in_second (places_of offer.menu chosen) (d ∷ ds) d (has-here d ds)))
            where
              in_second : (xs ys : List ℕ) (s : ℕ) → has ys s ≡ true → has (xs ++ ys) s ≡ true
              in_second [] ys s is = is
              in_second (x ∷ xs) ys s is = has-there x (xs ++ ys) s (in_second xs ys s is)

      -- what has the next section completes the node with it, and what lacks it the node without it
      pub completes_with : k < length offer.menu.places → has bundle (section_at offer.menu.places k) ≡ true
          → Completes offer (k + 1) (chosen ++ section_at offer.menu.places k ∷ []) bundle
      completes_with low is place early on =
          elim (cases_lt place k) [
            | inl before ↦
                let rises : section_at offer.menu.places place < section_at offer.menu.places k =
                section_at-rises offer.menu.places place k menu.places.ascending before low in
                completes place before on
                ∙ sym (has_push_other chosen (section_at offer.menu.places k) (section_at offer.menu.places place) (λ e. absurd (omega arith)))
            | inr at ↦
                let same : k ≡ place = omega arith in
                subst (λ p. has bundle (section_at offer.menu.places p) ≡ has (chosen ++ section_at offer.menu.places k ∷ []) (section_at offer.menu.places p))
                same (is ∙ sym (has_push_same chosen (section_at offer.menu.places k)))
          ]

      pub completes_without : k < length offer.menu.places → has bundle (section_at offer.menu.places k) ≡ false → Completes offer (k + 1) chosen bundle
      completes_without low lacks place early on =
          elim (cases_lt place k) [
            | inl before ↦ completes place before on
            | inr at ↦
                let same : k ≡ place = omega arith in
                subst (λ p. has bundle (section_at offer.menu.places p) ≡ has chosen (section_at offer.menu.places p)) same (lacks ∙ sym (next_not_chosen low))
          ]
