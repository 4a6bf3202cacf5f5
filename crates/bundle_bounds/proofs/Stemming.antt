-- The open places of a node and of those that follow it.
use Rattle.std.proofs.Common.{◌≡◌, ℕ, zero, suc, ◌+◌, ◌-◌, ◌≤◌, ◌<◌, true, false, ◌==◌, List, [], ◌∷◌, length, get_or, sym, ap, subst, ◌∙◌, arith, inl, inr}
use Rattle.std.proofs.lemmas.Bool.{cases_Bool, eq-eqb, ne_eqb}
use Rattle.bundle_bounds.specs.declared.prospects.Prospect.{Prospect}
use Rattle.bundle_bounds.specs.Offers.{OfferData}
use Rattle.bundle_bounds.specs.Opens.{is_open, open_places, opens_from, prospect, prospects}
use Rattle.bundle_bounds.proofs.Outlook.{opens_open, opens_shut}
use Rattle.bundle_bounds.proofs.Steps.{no_prospect}

module _ (offer : OfferData) (cs : List ℕ) where
  -- the places from one on are not before it
  first_late : (j n : ℕ) → 1 ≤ length (opens_from offer cs j n) → j ≤ (get_or (prospects offer cs (opens_from offer cs j n)) 0 no_prospect).place
  first_late j zero some = absurd (omega arith)
  first_late j (suc n) some = elim (cases_Bool (is_open offer cs j)) [
    | inl opened ↦ rw opened (omega arith)
    | inr shut ↦
        let later = first_late (j + 1) n (rw shut at some) in
        rw shut
        (let p : ℕ = (get_or (prospects offer cs (opens_from offer cs (j + 1) n)) 0 no_prospect).place in let later' : j + 1 ≤ p = later in let goal : j
        ≤ p = omega arith in goal)
  ]

  -- the next place is open exactly where the first open one is it
  pub next_none : (k : ℕ) → k < length offer.menu.places → prospects offer cs (open_places offer k cs) ≡ [] → is_open offer cs k ≡ false
  next_none k low none = elim (cases_Bool (is_open offer cs k)) [
    | inl opened ↦
        absurd
        (let some : prospect offer cs k (opens_from offer cs (k + 1) (length offer.menu.places - (k + 1)))
        ∷ prospects offer cs (opens_from offer cs (k + 1) (length offer.menu.places - (k + 1)))
        ≡ [] = sym (ap (prospects offer cs) (opens_open offer cs k (length offer.menu.places) low opened)) ∙ none in cc some)
    | inr shut ↦ shut
  ]

  pub next_first : (k : ℕ) (first : Prospect) (more : List Prospect) → k < length offer.menu.places → prospects offer cs (open_places offer k cs) ≡ first ∷ more
      → (first.place == k) ≡ is_open offer cs k
  next_first k first more low are = elim (cases_Bool (is_open offer cs k)) [
    | inl opened ↦
        let whole : prospect offer cs k (opens_from offer cs (k + 1) (length offer.menu.places - (k + 1)))
        ∷ prospects offer cs (opens_from offer cs (k + 1) (length offer.menu.places - (k + 1)))
        ≡ first ∷ more =
        sym (ap (prospects offer cs) (opens_open offer cs k (length offer.menu.places) low opened)) ∙ are in
        let one : prospect offer cs k (opens_from offer cs (k + 1) (length offer.menu.places - (k + 1))) ≡ first = cc whole in
        eq-eqb first.place k (sym (ap (λ p. p.place) one)) ∙ sym opened
    | inr shut ↦
        let whole : prospects offer cs (opens_from offer cs (k + 1) (length offer.menu.places - (k + 1))) ≡ first ∷ more =
        sym (ap (prospects offer cs) (opens_shut offer cs k (length offer.menu.places) low shut)) ∙ are in
        let late : k + 1 ≤ first.place =
        late_of (opens_from offer cs (k + 1) (length offer.menu.places - (k + 1))) (k + 1) first more
        (first_late (k + 1) (length offer.menu.places - (k + 1))) whole in
        ne_eqb first.place k (λ e. absurd (omega arith)) ∙ sym shut
  ]
    where
      late_of : (os : List ℕ) (j : ℕ) (first : Prospect) (more : List Prospect) → (1 ≤ length os → j ≤ (get_or (prospects offer cs os) 0 no_prospect).place)
          → prospects offer cs os ≡ first ∷ more → j ≤ first.place
      late_of [] j first more late are = absurd (cc are)
      late_of (o ∷ os) j first more late are =
          let one : prospect offer cs o os ≡ first = cc are in subst (λ (p : Prospect). j ≤ p.place) one (late (omega arith))

  -- the open places of the node that follows
  pub after_shut : (k : ℕ) → k < length offer.menu.places → is_open offer cs k ≡ false
      → prospects offer cs (open_places offer k cs) ≡ prospects offer cs (open_places offer (k + 1) cs)
  after_shut k low shut = ap (prospects offer cs) (opens_shut offer cs k (length offer.menu.places) low shut)

  pub after_open : (k : ℕ) → k < length offer.menu.places → is_open offer cs k ≡ true
      → prospects offer cs (open_places offer k cs) ≡ prospect offer cs k (open_places offer (k + 1) cs) ∷ prospects offer cs (open_places offer (k + 1) cs)
  after_open k low opened = ap (prospects offer cs) (opens_open offer cs k (length offer.menu.places) low opened)
