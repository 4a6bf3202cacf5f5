-- What the adjustments with later places can add, once fewer of these are left.
use Rattle.std.proofs.Common.{◌≡◌, ℕ, ◌≤◌, Bool, List, [], ◌∷◌, ◌++◌, map, Some, sym, ap, subst, ◌∙◌, arith}
use Rattle.std.specs.Prelude.{ℤ, pos, ◌+ℤ◌, ◌-ℤ◌, slice_get, filter}
use Rattle.std.proofs.lemmas.Int.{ints}
use Rattle.market_units.specs.Totals.{total, signed_total}
use Rattle.bundle_rules.specs.declared.menu.Rated.{Rated}
use Rattle.bundle_rules.specs.Menus.{adjustment_in, rating_at}
use Rattle.bundle_rules.specs.Existence.Places.{rating_at-is}
use Rattle.bundle_bounds.specs.declared.prospects.Prospect.{Prospect}
use Rattle.bundle_bounds.specs.Offers.{OfferData}
use Rattle.bundle_bounds.specs.Opens.{above_zero, hopes, prospect, prospects}
use Rattle.bundle_bounds.proofs.Gains.{signed_total-append}
use Rattle.bundle_rules.proofs.Parts.{total_filter}
use Rattle.market_units.proofs.Sums.{total-map}
use Rattle.bundle_bounds.proofs.Outlook.{places-prospects}

-- those that are left of the later places can add no more than all of them
pub hopes_fewer : (offer : OfferData) (cs : List ℕ) (place : ℕ) (keep : ℕ → Bool) (later : List ℕ) (kept : List Prospect)
    → kept ≡ prospects offer cs (filter keep later)
    → total (λ other. above_zero (adjustment_in offer.menu.pairs place other.place)) kept ≤ hopes offer place later
hopes_fewer offer cs place keep later kept kept_is =
    let f : ℕ → ℕ = λ other. above_zero (adjustment_in offer.menu.pairs place other) in
    let same : total f (filter keep later) ≡ total (λ other. above_zero (adjustment_in offer.menu.pairs place other.place)) kept =
    ap (total f) (sym (ap (map (λ (p : Prospect). p.place)) kept_is ∙ places-prospects offer cs (filter keep later)))
    ∙ total-map f (λ (p : Prospect). p.place) kept in
    subst (λ n. n ≤ hopes offer place later) same (total_filter f keep later)

-- the worth of an open place by what it added by itself
pub worth_without : (offer : OfferData) (before chosen : List ℕ) (last place : ℕ) (later : List ℕ) (one : Prospect) (rated : Rated) (a by own : ℤ)
    → one ≡ prospect offer before place later → slice_get offer.menu.places place ≡ Some rated → chosen ≡ before ++ last ∷ []
    → a ≡ signed_total (λ other. adjustment_in offer.menu.pairs other place) chosen → by ≡ adjustment_in offer.menu.pairs last place
    → own ≡ (pos rated.rating +ℤ a) -ℤ by
    → one.worth ≡ above_zero (own +ℤ pos (hopes offer place later))
worth_without offer before chosen last place later one rated a by own one_is at chosen_is a_is by_is own_is =
    let f : ℕ → ℤ = λ other. adjustment_in offer.menu.pairs other place in
    let r : ℕ = rating_at offer.menu.places place in
    let rating_is : rated.rating ≡ r = sym (rating_at-is offer.menu.places place rated at) in
    let s : ℤ = signed_total f before in
    let l : ℤ = adjustment_in offer.menu.pairs last place in
    let whole : a ≡ s +ℤ (l +ℤ pos 0) = a_is ∙ ap (signed_total f) chosen_is ∙ signed_total-append f before (last ∷ []) in
    let same : own ≡ pos r +ℤ s = omega (arith, ints, whole, by_is, own_is, rating_is) in
    ap (λ p. p.worth) one_is ∙ sym (ap (λ z. above_zero (z +ℤ pos (hopes offer place later))) same)
