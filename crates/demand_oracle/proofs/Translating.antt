-- The best bundle of positions is that of the sections there.
use Rattle.std.proofs.Common.{◌≡◌, ◌<◌, ℕ, Bool, true, false, Option, None, Some, List, [], ◌∷◌, length, map, arith, refl, inl, inr, sym, ◌∙◌, subst, ap}
use Rattle.std.specs.Prelude.{IfSome, ◌<ℤ◌}
use Rattle.std.proofs.lemmas.Bool.{true≢false}
use Rattle.std.proofs.lemmas.List.{length-map}
use Rattle.bundle_rules.specs.Preferences.{IsPreferred}
use Rattle.market_units.specs.Members.{has}
use Rattle.bundle_rules.specs.Wishes.{AllRated, utility}
use Rattle.bundle_rules.specs.Sets.{IsAscending, DiffersFirstIn}
use Rattle.bundle_rules.specs.Menus.{MenuData, IsMenu, wishes_of, section_at, place_in}
use Rattle.bundle_rules.specs.Existence.Members.{has-cases}
use Rattle.bundle_rules.specs.Ranks.{place_at, position_of, section_of, rank_of, named, ranked, IsRenamed}
use Rattle.bundle_rules.proofs.Feasibility.{place_of_rated}
use Rattle.bundle_rules.proofs.PlacesFirst.{section_at-rises}
use Rattle.bundle_rules.proofs.Positions.{rank_low, place_of_rank, place_low}
use Rattle.bundle_rules.proofs.Renamed.{AreBelow, rank_below, section_here, named_utility, named_has, named_has_at, named_ascending, named_ranked, ranked_named, ranked_below, ranked_has, rated_below, named_choice, choice_positions, ranked_choice}
use Rattle.bundle_bounds.specs.Offers.{OfferData}
use Rattle.bundle_bounds.specs.Laws.{IsTakable}
use Rattle.demand_oracle.specs.Bests.{IsAmong, AreInOrder}
use Rattle.demand_oracle.specs.Names.{StandsFirst, IsPreferredByName, rank_given}
use Rattle.demand_oracle.specs.Search.{LeadAim, LeadWanted, wanted_by}
use Rattle.demand_oracle.proofs.Naming.{lowest_first}

module _ (order : List ℕ) (m r : MenuData) (menu : IsMenu m) (menu' : IsMenu r) (is : IsRenamed order m r) (price' price : ℕ → ℕ) (budget : ℕ)
    (allowed' allowed : ℕ → Bool) (prices : (p : ℕ) → p < length m.places → price' p ≡ price (section_of m order p))
    (alloweds : (p : ℕ) → p < length m.places → allowed' p ≡ allowed (section_of m order p)) where
  abbrev n : ℕ
  n = length m.places

  abbrev here : OfferData
  here = record { menu = m; price = price; budget = budget; allowed = allowed }

  abbrev there : OfferData
  there = record { menu = r; price = price'; budget = budget; allowed = allowed' }

  -- a given place has its position, which may be taken alone where its section may be
  place_back : (k : ℕ) → k < length m.places → place_at order (position_of order k) ≡ k
  place_back k low = place_of_rank (length m.places) order k is.each_once low

  given_low : (k : ℕ) → k < length m.places → position_of order k < length r.places
  given_low k low = subst (λ l. position_of order k < l) (sym is.rated.count) (rank_low (length m.places) order k is.each_once low)

  pub given_on_menu : (given : Option ℕ) → IfSome given (λ k. k < length m.places) → IfSome (rank_given order given) (λ p. p < length r.places)
  given_on_menu None on = on
  given_on_menu (Some k) on = given_low k on

  position_there : (k : ℕ) → k < length m.places → section_at r.places (position_of order k) ≡ position_of order k
  position_there k low = is.rated.section (position_of order k) (rank_low (length m.places) order k is.each_once low)

  alone_at : (k : ℕ) → k < length m.places → IsTakable here (section_at m.places k ∷ []) → IsTakable there (section_at r.places (position_of order k) ∷ [])
  alone_at k low may =
      let p : ℕ = position_of order k in
      let on : p < length m.places = rank_low (length m.places) order k is.each_once low in
      subst (λ s. IsTakable there (s ∷ [])) (sym (position_there k low))
      (choice_positions order m r menu menu' is price' price budget allowed' allowed prices alloweds (p ∷ []) (tt, tt) (one_below p on)
      (subst (λ j. IsTakable here (section_at m.places j ∷ [])) (sym (place_back k low)) may))
    where
      one_below : (p : ℕ) → p < length m.places → AreBelow (length m.places) (p ∷ [])
      one_below p on q is' = elim (has-cases p [] q is') [
        | inl same ↦ subst (λ s. s < length m.places) same on
        | inr none ↦ absurd (true≢false (sym none))
      ]

  pub given_alone : (given : Option ℕ) → IfSome given (λ k. k < length m.places) → IfSome given (λ k. IsTakable here (section_at m.places k ∷ []))
      → IfSome (rank_given order given) (λ p. IsTakable there (section_at r.places p ∷ []))
  given_alone None on alone = alone
  given_alone (Some k) on alone = alone_at k on alone

  -- what is wanted here is wanted there, and the other way round
  wanted_there : (given : Option ℕ) → IfSome given (λ k. k < length m.places) → (b : List ℕ) → AllRated (wishes_of m) b → wanted_by m given b ≡ true
      → wanted_by r (rank_given order given) (ranked m order b) ≡ true
  wanted_there None on b rated is' = refl
  wanted_there (Some k) on b rated is' =
      let low : position_of order k < length m.places = rank_low (length m.places) order k is.each_once on in
      ap (has (ranked m order b)) (position_there k on) ∙ ranked_has order m r menu menu' is b (position_of order k) rated low
      ∙ ap (λ j. has b (section_at m.places j)) (place_back k on) ∙ is'

  pub wanted_here : (given : Option ℕ) → IfSome given (λ k. k < length m.places) → (ps : List ℕ) → AreBelow (length m.places) ps
      → wanted_by r (rank_given order given) ps ≡ true → wanted_by m given (named m order ps) ≡ true
  wanted_here None on ps lows is' = refl
  wanted_here (Some k) on ps lows is' =
      let low : position_of order k < length m.places = rank_low (length m.places) order k is.each_once on in
      ap (λ j. has (named m order ps) (section_at m.places j)) (sym (place_back k on)) ∙ named_has_at order m r menu menu' is ps (position_of order k) lows low
      ∙ ap (has ps) (sym (position_there k on)) ∙ is'

  -- what stands first by the places of positions stands first by sections
  first_here : (a b : List ℕ) → IsAscending a → AreBelow (length m.places) a → IsAscending b → AllRated (wishes_of m) b
      → StandsFirst (place_at order) a (ranked m order b) → DiffersFirstIn (named m order a) b
  first_here a b up lows up' rated first =
      let p : ℕ = first.0 in
      let low : p < length m.places = lows p first.1 in
      lowest_first (named m order a) b (named_ascending order m r menu menu' is a up lows) up' (
        section_of m order p,
        named_has_at order m r menu menu' is a p lows low ∙ first.1,
        sym (ranked_has order m r menu menu' is b p rated low) ∙ first.2,
        λ t is' lacks.
            let on : place_in m.places t < length m.places = place_of_rated m b rated t is' in
            let q : ℕ = rank_of m order t in
            let low_q : q < length m.places = rank_below order m r menu menu' is t on in
            let back : section_of m order q ≡ t = section_here order m r menu menu' is t on in
            let in_b : has (ranked m order b) q ≡ true = ranked_has order m r menu menu' is b q rated low_q ∙ ap (has b) back ∙ is' in
            let not_in_a : has a q ≡ false = sym (named_has order m r menu menu' is a t lows on) ∙ lacks in
            let later : place_at order p < place_at order q = first.3 q in_b not_in_a in
            subst (λ s. section_of m order p < s) back
            (section_at-rises m.places (place_at order p) (place_at order q) menu.places.ascending later
            (place_low (length m.places) order q is.each_once low_q)),
      )

  module _ (found : List ℕ) (takable : IsTakable there found) where
    lows : AreBelow (length m.places) found
    lows = rated_below order m r menu menu' is found takable.feasible.rated

    -- what is preferred by names there is preferred here
    preferred_here : (b : List ℕ) → IsTakable here b → IsPreferredByName (place_at order) (wishes_of r) found (ranked m order b)
        → IsPreferred (wishes_of m) (named m order found) b
    preferred_here b may (inl more) =
        let back = named_ranked order m r menu menu' is b may.feasible.set may.feasible.rated in
        let low_b = ranked_below order m r menu menu' is b may.feasible.rated in
        inl (subst (λ u. u <ℤ utility (wishes_of m) (named m order found))
        (sym (named_utility order m r menu menu' is (ranked m order b) low_b) ∙ ap (utility (wishes_of m)) back)
        (subst (λ u. utility (wishes_of r) (ranked m order b) <ℤ u) (sym (named_utility order m r menu menu' is found lows)) more))
    preferred_here b may (inr tie) =
        let back = named_ranked order m r menu menu' is b may.feasible.set may.feasible.rated in
        let low_b = ranked_below order m r menu menu' is b may.feasible.rated in
        inr (
          named_utility order m r menu menu' is found lows ∙ tie.0 ∙ sym (named_utility order m r menu menu' is (ranked m order b) low_b)
              ∙ ap (utility (wishes_of m)) back,
          first_here found b takable.feasible.set lows may.feasible.set may.feasible.rated tie.1,
        )

  named_takable : (b : List ℕ) → IsTakable there b → IsTakable here (named m order b)
  named_takable b may = named_choice order m r menu menu' is price' price budget allowed' allowed prices alloweds b may

  -- two that are preferred there
  both_here : (a b : List ℕ) → IsTakable there a → IsTakable there b → IsPreferredByName (place_at order) (wishes_of r) a b
      → IsPreferred (wishes_of m) (named m order a) (named m order b)
  both_here a b may may' more =
      preferred_here a may (named m order b) (named_takable b may')
      (subst (IsPreferredByName (place_at order) (wishes_of r) a)
      (sym (ranked_named order m r menu menu' is b may'.feasible.set (rated_below order m r menu menu' is b may'.feasible.rated))) more)

  -- what is among them is one by its name
  among_named : (bs : List (List ℕ)) (b : List ℕ) → IsAmong b bs → IsAmong (named m order b) (map (named m order) bs)
  among_named [] b is' = absurd is'
  among_named (x ∷ bs) b (inl same) = inl (ap (named m order) same)
  among_named (x ∷ bs) b (inr there') = inr (among_named bs b there')

  each_named : (bs : List (List ℕ)) (Q : List ℕ → Type 0) → ((b : List ℕ) → IsAmong b bs → Q (named m order b)) → (b : List ℕ)
      → IsAmong b (map (named m order) bs) → Q b
  each_named [] Q each b is' = absurd is'
  each_named (x ∷ bs) Q each b (inl same) = subst Q (sym same) (each x (inl refl))
  each_named (x ∷ bs) Q each b (inr there') = each_named bs Q (λ c among. each c (inr among)) b there'

  order_named : (bs : List (List ℕ)) → ((b : List ℕ) → IsAmong b bs → IsTakable there b)
      → AreInOrder (IsPreferredByName (place_at order) (wishes_of r)) bs → AreInOrder (IsPreferred (wishes_of m)) (map (named m order) bs)
  order_named [] may up = tt
  order_named (x ∷ bs) may up = (
    each_named bs (IsPreferred (wishes_of m) (named m order x)) (λ b among. both_here x b (may x (inl refl)) (may b (inr among)) (up.0 b among)),
    order_named bs (λ b among. may b (inr among)) up.1,
  )

  module _ (given : Option ℕ) (on : IfSome given (λ k. k < length m.places)) (found : List (List ℕ))
      (lead : LeadAim there (record { wanted = wanted_by r (rank_given order given); name = place_at order }) found) where
    pub lead_here : LeadWanted here (wanted_by m given) (map (named m order) found)
    lead_here = record {
      some = let same : length (map (named m order) found) ≡ length found = length-map found (named m order) in omega (arith, same, lead.some);
      takable = each_named found (IsTakable here) (λ b among. named_takable b (lead.takable b among));
      in_order = order_named found lead.takable lead.in_order;
      over = λ other may is_wanted.
          let back = named_ranked order m r menu menu' is other may.feasible.set may.feasible.rated in
          elim (lead.over (ranked m order other) (ranked_choice order m r menu menu' is price' price budget allowed' allowed prices alloweds other may)
          (wanted_there given on other may.feasible.rated is_wanted)) [
            | inl among ↦ inl (subst (λ b. IsAmong b (map (named m order) found)) back (among_named found (ranked m order other) among))
            | inr behind ↦
                inr (each_named found (λ b. IsPreferred (wishes_of m) b other)
                (λ b among. preferred_here b (lead.takable b among) other may (behind b among)))
          ];
    }

    -- and they are wanted here where they are there
    pub all_wanted_here : ((b : List ℕ) → IsAmong b found → wanted_by r (rank_given order given) b ≡ true)
        → (b : List ℕ) → IsAmong b (map (named m order) found) → wanted_by m given b ≡ true
    all_wanted_here fits =
        each_named found (λ b. wanted_by m given b ≡ true)
        (λ b among. wanted_here given on b (rated_below order m r menu menu' is b (lead.takable b among).feasible.rated) (fits b among))
