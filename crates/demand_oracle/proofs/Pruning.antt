-- Where less can be reached from a node than its champion's utility, the champion is as good as all that completes it.
use Rattle.std.proofs.Common.{◌≡◌, ◌≤◌, ◌<◌, ℕ, true, List, [], ◌∷◌, length, refl, sym, ◌∙◌, ap, subst, inl, inr, arith}
use Rattle.std.specs.Prelude.{ℤ, pos, ◌+ℤ◌, ◌-ℤ◌, ◌*ℤ◌, ◌<ℤ◌, ◌≤ℤ◌, ◌^◌}
use Rattle.std.proofs.lemmas.Int.{ints}
use Rattle.market_units.specs.Totals.{total}
use Rattle.market_units.specs.Members.{has}
use Rattle.bundle_rules.specs.Existence.Members.{has-here, has-there}
use Rattle.bundle_rules.specs.Wishes.{utility}
use Rattle.bundle_rules.specs.Menus.{wishes_of, by_place}
use Rattle.bundle_rules.specs.Existence.Orders.{int_order}
use Rattle.bundle_bounds.specs.Offers.{OfferData, places_of}
use Rattle.demand_oracle.specs.Values.{hopes_from}
use Rattle.demand_oracle.specs.Covers.{IsAdded}
use Rattle.demand_oracle.specs.Reaches.{number_at, HoldsHopes}
use Rattle.demand_oracle.specs.Search.{Aim, LeadsNode, WinsEachTie}

-- what is compared at a node: what may be added, what is hoped for, both utilities, and what lacks
pub record IsWeighed (offer : OfferData) (k : ℕ) (chosen champion : List ℕ) (added : ℤ) (hopes : ℕ) (u worth lacking : ℤ) : Type 0 where
  pub is_added : IsAdded offer k chosen added
  pub hopes_are : hopes ≡ total (hopes_from offer k) (places_of offer.menu chosen)
  pub u_is : u ≡ utility (by_place offer.menu) (places_of offer.menu chosen)
  pub worth_is : worth ≡ utility (wishes_of offer.menu) champion
  pub lacks : lacking ≡ (worth -ℤ u) -ℤ pos hopes
  pub high : lacking ≤ℤ pos (2 ^ 34)

module _ (offer : OfferData) (aim : Aim) (k : ℕ) (chosen champion : List ℕ) (added : ℤ) (hopes : ℕ) (u worth lacking : ℤ)
    (is : IsWeighed offer k chosen champion added hopes u worth lacking) where
  -- a bundle that completes the node has no more than what is hoped for and added
  most_reached : (bundle : List ℕ)
      → (pos 1000000 *ℤ utility (wishes_of offer.menu) bundle)
      ≤ℤ ((pos 1000000 *ℤ (utility (by_place offer.menu) (places_of offer.menu chosen) +ℤ pos (total (hopes_from offer k) (places_of offer.menu chosen))))
      +ℤ added)
      → (pos 1000000 *ℤ utility (wishes_of offer.menu) bundle) ≤ℤ ((pos 1000000 *ℤ (u +ℤ pos hopes)) +ℤ added)
  most_reached bundle reached = rw (is.u_is, is.hopes_are) reached

  -- less than the champion has can be reached
  pub less_prunes : added <ℤ (pos 1000000 *ℤ lacking) → LeadsNode offer aim k chosen champion
  less_prunes below bundle may is_wanted completes =
      let lacks = is.lacks in
      let high = is.high in
      elim (is.is_added bundle may completes) [
        | inl enough ↦ absurd (omega (arith, ints))
        | inr reached ↦
            let v : ℤ = utility (wishes_of offer.menu) bundle in
            let reached' : (pos 1000000 *ℤ v) ≤ℤ ((pos 1000000 *ℤ (u +ℤ pos hopes)) +ℤ added) = most_reached bundle reached in
            let less : v <ℤ worth = omega (arith, ints) in
            inr (inl (subst (λ z. v <ℤ z) is.worth_is less))
      ]

  -- no more than the champion has can be reached, and the champion comes first
  pub no_more_prunes : added <ℤ (pos 1000000 *ℤ (lacking +ℤ pos 1)) → WinsEachTie aim.name offer k chosen champion → LeadsNode offer aim k chosen champion
  no_more_prunes below first bundle may is_wanted completes =
      let lacks = is.lacks in
      let high = is.high in
      elim (is.is_added bundle may completes) [
        | inl enough ↦ absurd (omega (arith, ints))
        | inr reached ↦
            let v : ℤ = utility (wishes_of offer.menu) bundle in
            let reached' : (pos 1000000 *ℤ v) ≤ℤ ((pos 1000000 *ℤ (u +ℤ pos hopes)) +ℤ added) = most_reached bundle reached in
            let no_more : v ≤ℤ worth = omega (arith, ints) in
            elim (int_order v worth) [
              | inl less ↦ inr (inl (subst (λ z. v <ℤ z) is.worth_is less))
              | inr (inl equal) ↦ inr (inr (sym (equal ∙ is.worth_is), first bundle may completes))
              | inr (inr more) ↦ absurd (omega (arith, ints))
            ]
      ]

-- the hopes that are read from a row are those of the chosen places
pub hopes_read : (offer : OfferData) (table : List (List ℕ)) (k row : ℕ) (cs : List ℕ) → HoldsHopes offer table 0 → row ≡ k → k ≤ length offer.menu.places
    → ((c : ℕ) → has cs c ≡ true → c < k) → total (number_at table row) cs ≡ total (hopes_from offer k) cs
hopes_read offer table k row [] holds is on below = refl
hopes_read offer table k row (c ∷ cs) holds is on below =
    let rest = hopes_read offer table k row cs holds is on (λ d in_it. below d (has-there c cs d in_it)) in
    let own : number_at table row c ≡ hopes_from offer k c = ap (λ n. number_at table n c) is ∙ holds k c (omega arith) on (below c (has-here c cs)) in
    rw (own, rest) refl
