-- The best has a tree.
use Rattle.std.proofs.Common.{◌≡◌, ◌≢◌, ◌<◌, ◌≤◌, ◌+◌, ◌-◌, ◌++◌, ◌⊎◌, ℕ, zero, suc, true, Option, None, Some, List, [], ◌∷◌, length, refl, sym, ◌∙◌, ap, subst, inl, inr, arith}
use Rattle.std.specs.Prelude.{ℤ, pos, ◌+ℤ◌, ◌*ℤ◌, ◌<ℤ◌}
use Rattle.std.proofs.lemmas.Int.{ints}
use Rattle.std.proofs.lemmas.Bool.{cases_Bool, cases_lt, cases_order, false≢true}
use Rattle.market_units.specs.Members.{has}
use Rattle.bundle_rules.specs.Sets.{DiffersFirstIn}
use Rattle.bundle_rules.specs.Wishes.{utility}
use Rattle.bundle_rules.specs.Menus.{IsMenu, wishes_of, by_place, section_at, place_in}
use Rattle.bundle_rules.specs.Preferences.{IsPreferred}
use Rattle.bundle_rules.specs.Existence.Orders.{int_order}
use Rattle.bundle_rules.specs.Existence.Places.{section_at-place_in}
use Rattle.bundle_rules.proofs.Feasibility.{utility_by_place}
use Rattle.bundle_rules.proofs.PlacesFirst.{section_at-rises}
use Rattle.bundle_bounds.specs.declared.nodes.Leaf.{Leaf}
use Rattle.bundle_bounds.specs.Offers.{OfferData, places_of}
use Rattle.bundle_bounds.specs.Opens.{budget_left, credits_left, courses_left, is_open, open_places, opens_from, prospects}
use Rattle.bundle_bounds.specs.Bounds.{base_of, bounds, bounds_over, IsFirstPruning, NonePrunes}
use Rattle.bundle_bounds.specs.Limits.{NoneBelow, IsFirstBelow}
use Rattle.bundle_rules.specs.Ahead.{IsAhead, is_ahead}
use Rattle.bundle_bounds.specs.Ahead.{limit_of}
use Rattle.bundle_bounds.specs.Laws.{IsTakable, IsNode}
use Rattle.bundle_bounds.proofs.ByPlace.{places-has, has_by_place, on_menu, taken_places}
use Rattle.bundle_bounds.proofs.BelowLimit.{some_prunes, none_prunes}
use Rattle.bundle_bounds.proofs.NodeFacts.{nothing_chosen}
use Rattle.bundle_bounds.proofs.Openings.{node_without}
use Rattle.proof_tree.specs.Trees.{Tree, Wins, Bars, Cuts, Takes, Splits, Passes, IsTree, IsShut, IsChampionsEnd, GoesOn}
use Rattle.proof_tree.specs.Laws.{HasTree, TreesProveTheBest, TreesProveTheBestWith}
use Rattle.proof_tree.proofs.Nodes.{places_with, places_low}
use Rattle.proof_tree.proofs.Sound.{HasRequired, IsOnMenu, node_where_open, tree_is_sound}
use Rattle.market_units.proofs.Memberships.{has_push_same, has_push_other}

-- the takable bundle with the required place that is preferred to every other one
record IsBestRequired (offer : OfferData) (required : Option ℕ) (bundle : List ℕ) : Type 0 where
  takable : IsTakable offer bundle
  has_required : HasRequired offer required bundle
  preferred : (other : List ℕ) → IsTakable offer other → HasRequired offer required other → other ≢ bundle → IsPreferred (wishes_of offer.menu) bundle other

-- two lists are the same or not
same_or_not : (xs ys : List ℕ) → (xs ≡ ys) ⊎ (xs ≢ ys)
same_or_not [] [] = inl refl
same_or_not [] (y ∷ ys) = inr (λ e. cc e)
same_or_not (x ∷ xs) [] = inr (λ e. cc e)
same_or_not (x ∷ xs) (y ∷ ys) = elim (cases_order x y) [
  | inl same ↦ elim (same_or_not xs ys) [
    | inl rest ↦ inl cc
    | inr other ↦ inr (λ e. other (cc e))
  ]
  | inr (inl below) ↦ inr (λ e. let h : x ≡ y = cc e in absurd (omega arith))
  | inr (inr above) ↦ inr (λ e. let h : x ≡ y = cc e in absurd (omega arith))
]

shut_or_not : (offer : OfferData) (required : Option ℕ) (k : ℕ) (cs : List ℕ) → IsShut offer required k cs ⊎ (IsShut offer required k cs → ⊥)
shut_or_not offer None k cs = inr (λ s. absurd (cc s.1))
shut_or_not offer (Some place) k cs = elim (cases_lt place k) [
  | inl before ↦ inr (λ s. let e : place ≡ s.0 = cc s.1 in let h : k ≤ s.0 = s.2 in absurd (omega arith))
  | inr after ↦ elim (cases_Bool (is_open offer cs place)) [
    | inl open_ ↦ inr (λ s. let e : place ≡ s.0 = cc s.1 in false≢true (sym s.3 ∙ ap (is_open offer cs) (sym e) ∙ open_))
    | inr shut ↦ inl (place, refl, after, shut)
  ]
]

required_or_not : (required : Option ℕ) (k : ℕ) → (required ≡ Some k) ⊎ (required ≢ Some k)
required_or_not None k = inr (λ e. cc e)
required_or_not (Some place) k = elim (cases_order place k) [
  | inl same ↦ inl (ap (λ p. Some p) same)
  | inr (inl below) ↦ inr (λ e. let h : place ≡ k = cc e in absurd (omega arith))
  | inr (inr above) ↦ inr (λ e. let h : place ≡ k = cc e in absurd (omega arith))
]

first_or_none : (limit : ℤ) (bs : List (Leaf × ℤ)) → ((leaf : Leaf) × IsFirstBelow limit bs leaf) ⊎ NoneBelow limit bs
first_or_none limit [] = inr tt
first_or_none limit (b ∷ bs) = elim (int_order b.1 limit) [
  | inl below ↦ inl (b.0, inl (below, refl))
  | inr not_below ↦
      let none : b.1 <ℤ limit → ⊥ = λ low. elim not_below [ inl same ↦ omega (arith, ints) | inr above ↦ omega (arith, ints) ] in
      elim (first_or_none limit bs) [
        | inl first ↦ inl (first.0, inr (none, first.1))
        | inr later ↦ inr (none, later)
      ]
]

module _ (offer : OfferData) (menu : IsMenu offer.menu) (required : Option ℕ) (on : IsOnMenu offer required) (champion : List ℕ)
    (takable : IsTakable offer champion) where
  -- a bound prunes a node, or none does
  pruned_or_not : (k : ℕ) (chosen : List ℕ) → IsNode offer k chosen
      →
      ((leaf : Leaf) × IsFirstPruning offer k (places_of offer.menu chosen) (places_of offer.menu champion) (bounds offer k (places_of offer.menu chosen)) leaf)
      ⊎ NonePrunes offer k (places_of offer.menu chosen) (places_of offer.menu champion) (bounds offer k (places_of offer.menu chosen))
  pruned_or_not k chosen node =
      let cs = places_of offer.menu chosen in
      let ch = places_of offer.menu champion in
      let up = (taken_places offer champion menu takable).ascending in
      let up' = (taken_places offer chosen menu node.takable).ascending in
      let most : ℤ = limit_of (utility (by_place offer.menu) ch) (is_ahead k ch cs) in
      elim (first_or_none most (bounds offer k cs)) [
        | inl first ↦
            inl (
              first.0,
              some_prunes offer k cs ch up up' (places_low offer menu k chosen node) (base_of offer cs) most (budget_left offer cs)
                  (credits_left offer cs) (courses_left offer cs) (prospects offer cs (open_places offer k cs)) refl refl refl refl refl refl
                  (Some first.0) first.1,
            )
        | inr none ↦
            inr
            (none_prunes offer k cs ch up up' (places_low offer menu k chosen node) (base_of offer cs) most (budget_left offer cs) (credits_left offer cs)
            (courses_left offer cs) (prospects offer cs (open_places offer k cs)) refl refl refl refl refl refl None none)
      ]

  -- at the end the champion, where it is preferred to the chosen sections, is ahead of them or has more utility
  ahead_at_end : (chosen : List ℕ) → IsTakable offer chosen → DiffersFirstIn champion chosen
      → IsAhead (length offer.menu.places) (places_of offer.menu champion) (places_of offer.menu chosen)
  ahead_at_end chosen may differs =
      let s = differs.0 in
      let places = offer.menu.places in
      let place : ℕ = place_in offer.menu.places differs.0 in
      let low : place_in offer.menu.places differs.0 < length offer.menu.places = on_menu offer champion takable differs.0 differs.1 in
      let back : section_at offer.menu.places (place_in offer.menu.places differs.0) ≡ differs.0 = section_at-place_in offer.menu.places differs.0 low in
      let of_champion =
      λ (p : ℕ) (h : p < length offer.menu.places). has_by_place offer.menu.places champion p menu.places.ascending (on_menu offer champion takable) h in
      let of_chosen = λ (p : ℕ) (h : p < length offer.menu.places). has_by_place offer.menu.places chosen p menu.places.ascending (on_menu offer chosen may) h in (
        place_in offer.menu.places differs.0,
        low,
        places-has offer.menu.places champion differs.0 differs.1,
        of_chosen (place_in offer.menu.places differs.0) low ∙ ap (has chosen) back ∙ differs.2,
        λ t below.
            let rises : section_at offer.menu.places t < section_at offer.menu.places (place_in offer.menu.places differs.0) =
            section_at-rises offer.menu.places t (place_in offer.menu.places differs.0) menu.places.ascending below low in
            of_champion t (omega arith) ∙ differs.3 (section_at offer.menu.places t) (omega arith) ∙ sym (of_chosen t (omega arith)),
      )

  pruned_at_end : (k : ℕ) (chosen : List ℕ) → k ≡ length offer.menu.places → IsTakable offer chosen → IsPreferred (wishes_of offer.menu) champion chosen
      → NonePrunes offer k (places_of offer.menu chosen) (places_of offer.menu champion) (bounds offer k (places_of offer.menu chosen)) → ⊥
  pruned_at_end k chosen all may preferred none =
      let cs = places_of offer.menu chosen in
      let ch = places_of offer.menu champion in
      let zero_left : length offer.menu.places - k ≡ 0 = omega arith in
      let no_open : open_places offer k (places_of offer.menu chosen) ≡ [] = ap (opens_from offer (places_of offer.menu chosen) k) zero_left in
      let none' = subst (λ os. NonePrunes offer k cs ch (bounds_over offer cs (prospects offer cs os))) no_open none in
      let u : ℤ = utility (by_place offer.menu) (places_of offer.menu chosen) in
      let m : ℤ = utility (by_place offer.menu) (places_of offer.menu champion) in
      let u' : ℤ = utility (wishes_of offer.menu) chosen in
      let m' : ℤ = utility (wishes_of offer.menu) champion in
      let same : u ≡ u' = utility_by_place offer.menu chosen in
      let same' : m ≡ m' = utility_by_place offer.menu champion in
      none'.0 (elim preferred [
        | inl more ↦
            let less : u' <ℤ m' = more in
            let less' : u <ℤ m = subst (λ z. z <ℤ m) (sym same) (subst (λ z. u' <ℤ z) (sym same') less) in
            inl (let goal : (pos 1000 *ℤ u +ℤ pos 0) <ℤ (pos 1000 *ℤ m) = omega (arith, ints) in goal)
        | inr first ↦
            let equal : m ≡ u = same' ∙ first.0 ∙ sym same in
            inr (
              (let goal : (pos 1000 *ℤ u +ℤ pos 0) <ℤ (pos 1000 *ℤ (m +ℤ pos 1)) = omega (arith, ints) in goal),
              subst (λ n. IsAhead n ch cs) (sym all) (ahead_at_end chosen may first.1),
            )
      ])

  -- the required place is chosen, where it is decided
  IsKept : ℕ → List ℕ → Type 0
  IsKept k chosen = (place : ℕ) → required ≡ Some place → place < k → has chosen (section_at offer.menu.places place) ≡ true

  abbrev HasTreeAt : ℕ → List ℕ → Type 0
  HasTreeAt k chosen = (tree : Tree) × IsTree offer required (places_of offer.menu champion) k (places_of offer.menu chosen) tree

  module _ (best : IsBestRequired offer required champion) where
    mutual_end : (k : ℕ) (chosen : List ℕ) → k ≡ length offer.menu.places → IsNode offer k chosen → IsKept k chosen
        → places_of offer.menu chosen ≢ places_of offer.menu champion → IsPreferred (wishes_of offer.menu) champion chosen
    unfolding IsKept
    mutual_end k chosen all node kept other =
        best.preferred chosen node.takable (λ place is. kept place is (let low = on place is in omega arith)) (λ e. other (ap (places_of offer.menu) e))

    kept_with : (k : ℕ) (chosen : List ℕ) → IsNode offer k chosen → k < length offer.menu.places → IsKept k chosen
        → IsKept (k + 1) (chosen ++ section_at offer.menu.places k ∷ [])
    unfolding IsKept
    kept_with k chosen node low kept place is early = elim (cases_lt place k) [
      | inl before ↦
          let rises : section_at offer.menu.places place < section_at offer.menu.places k =
          section_at-rises offer.menu.places place k menu.places.ascending before low in
          has_push_other chosen (section_at offer.menu.places k) (section_at offer.menu.places place) (λ e. absurd (omega arith)) ∙ kept place is before
      | inr at ↦
          let same : k ≡ place = omega arith in
          subst (λ p. has (chosen ++ section_at offer.menu.places k ∷ []) (section_at offer.menu.places p) ≡ true) same
          (has_push_same chosen (section_at offer.menu.places k))
    ]

    kept_without : (k : ℕ) (chosen : List ℕ) → required ≢ Some k → IsKept k chosen → IsKept (k + 1) chosen
    unfolding IsKept
    kept_without k chosen other kept place is early = elim (cases_lt place k) [
      | inl before ↦ kept place is before
      | inr at ↦ let same : place ≡ k = omega arith in absurd (other (is ∙ ap (λ p. Some p) same))
    ]

    haproof_tree : (left k : ℕ) (chosen : List ℕ) → k + left ≡ length offer.menu.places → IsNode offer k chosen → IsKept k chosen
        → (tree : Tree) × IsTree offer required (places_of offer.menu champion) k (places_of offer.menu chosen) tree
    haproof_tree zero k chosen all node kept =
        elim (same_or_not (places_of offer.menu chosen) (places_of offer.menu champion)) [
          | inl same ↦ (Wins, (let at_end : k ≡ length offer.menu.places = omega arith in at_end, same))
          | inr other ↦
              let no_end : IsChampionsEnd offer (places_of offer.menu champion) k (places_of offer.menu chosen) → ⊥ = λ end. other end.1 in
              elim (shut_or_not offer required k (places_of offer.menu chosen)) [
                | inl shut ↦ (Bars, (no_end, shut))
                | inr not_shut ↦ elim (pruned_or_not k chosen node) [
                  | inl pruned ↦ (Cuts pruned.0, (record { no_end = no_end; not_shut = not_shut }, pruned.1))
                  | inr none ↦
                      let at_end : k ≡ length offer.menu.places = omega arith in
                      absurd (pruned_at_end k chosen at_end node.takable (mutual_end k chosen at_end node kept other) none)
                ]
              ]
        ]
    haproof_tree (suc left) k chosen all node kept =
        let low : k < length offer.menu.places = omega arith in
        let rest : (k + 1) + left ≡ length offer.menu.places = omega arith in
        let no_end : IsChampionsEnd offer (places_of offer.menu champion) k (places_of offer.menu chosen) → ⊥ =
        λ end. let e : k ≡ length offer.menu.places = end.0 in absurd (omega arith) in
        elim (shut_or_not offer required k (places_of offer.menu chosen)) [
          | inl shut ↦ (Bars, (no_end, shut))
          | inr not_shut ↦ elim (pruned_or_not k chosen node) [
            | inl pruned ↦ (Cuts pruned.0, (record { no_end = no_end; not_shut = not_shut }, pruned.1))
            | inr none ↦
                let goes : GoesOn offer required (places_of offer.menu champion) k (places_of offer.menu chosen) =
                record { unsettled = record { no_end = no_end; not_shut = not_shut }; none_prunes = none; left = low } in
                elim (cases_Bool (is_open offer (places_of offer.menu chosen) k)) [
                  | inl open_ ↦
                      let with_it =
                      haproof_tree left (k + 1) (chosen ++ section_at offer.menu.places k ∷ []) rest
                      (node_where_open offer menu required on champion takable k chosen node low open_) (kept_with k chosen node low kept) in
                      let below : IsTree offer required (places_of offer.menu champion) (k + 1) (places_of offer.menu chosen ++ k ∷ []) with_it.0 =
                      subst (λ cs. IsTree offer required (places_of offer.menu champion) (k + 1) cs with_it.0) (places_with offer menu k chosen low)
                      with_it.1 in
                      elim (required_or_not required k) [
                        | inl forced ↦ (Takes with_it.0, ((goes, forced), below))
                        | inr other ↦
                            let without = haproof_tree left (k + 1) chosen rest (node_without offer k chosen node) (kept_without k chosen other kept) in
                            (Splits with_it.0 without.0, ((goes, other, open_), below, without.1))
                      ]
                  | inr shut ↦ elim (required_or_not required k) [
                    | inl forced ↦ absurd (not_shut (k, forced, (let h : k ≤ k = omega arith in h), shut))
                    | inr other ↦
                        let without = haproof_tree left (k + 1) chosen rest (node_without offer k chosen node) (kept_without k chosen other kept) in
                        (Passes without.0, ((goes, other, shut), without.1))
                  ]
                ]
          ]
        ]

  tree_of_best : IsBestRequired offer required champion → HasTree offer required champion
  unfolding IsKept
  tree_of_best best = haproof_tree best (length offer.menu.places) 0 [] (omega arith) (nothing_chosen offer 0) (λ place is early. absurd (omega arith))

  best_of_tree : HasRequired offer required champion → HasTree offer required champion → IsBestRequired offer required champion
  best_of_tree has_it tree = record {
    takable = takable;
    has_required = has_it;
    preferred = λ other may has_other apart.
        elim (tree_is_sound offer menu required on champion takable tree.0 0 [] (nothing_chosen offer 0) (omega arith) tree.1 other may has_other (λ place early. absurd (omega arith))) [
          | inl same ↦ absurd (apart same)
          | inr more ↦ more
        ];
  }

pub trees_prove_the_best_with : TreesProveTheBestWith
trees_prove_the_best_with offer place champion menu low takable has_it =
    let on : IsOnMenu offer (Some place) = λ p is. let e : place ≡ p = cc is in subst (λ q. q < length offer.menu.places) e low in
    let as_required : (bundle : List ℕ) → has bundle (section_at offer.menu.places place) ≡ true → HasRequired offer (Some place) bundle =
    λ bundle has_it' p is. let e : place ≡ p = cc is in subst (λ q. has bundle (section_at offer.menu.places q) ≡ true) e has_it' in (
      λ tree. let best = best_of_tree offer menu (Some place) on champion takable (as_required champion has_it) tree in record {
        choice = takable;
        is_wanted = has_it;
        preferred = λ other may has_other apart. best.preferred other may (as_required other has_other) apart;
      },
      λ best. tree_of_best offer menu (Some place) on champion takable record {
        takable = takable;
        has_required = as_required champion has_it;
        preferred = λ other may has_other apart. best.preferred other may (has_other place refl) apart;
      },
    )

pub trees_prove_the_best : TreesProveTheBest
trees_prove_the_best offer champion menu takable =
    let on : IsOnMenu offer None = λ p is. absurd (cc is) in
    let none : (bundle : List ℕ) → HasRequired offer None bundle = λ bundle p is. absurd (cc is) in (
      λ tree. let best = best_of_tree offer menu None on champion takable (none champion) tree in record { choice = takable; preferred = λ other may apart. best.preferred other may (none other) apart },
      λ best. tree_of_best offer menu None on champion takable
          record { takable = takable; has_required = none champion; preferred = λ other may has_it apart. best.preferred other may apart },
    )
