-- What places add to chosen ones is at most what is hoped for and their values with what is paid.
use Rattle.std.proofs.Common.{◌≡◌, ℕ, zero, suc, ◌+◌, ◌*◌, ◌-◌, ◌≤◌, ◌<◌, true, List, [], ◌∷◌, length, sym, subst, arith, inl, inr}
use Rattle.std.proofs.Math.Nat.{mul-add, mul-le-mul_left}
use Rattle.std.specs.Prelude.{ℤ, pos, ◌+ℤ◌, ◌≤ℤ◌}
use Rattle.std.proofs.lemmas.Int.{ints}
use Rattle.std.proofs.lemmas.Bool.{cases_order}
use Rattle.market_units.specs.Totals.{total, signed_total}
use Rattle.market_units.specs.Members.{has}
use Rattle.bundle_rules.specs.Sets.{IsAscending}
use Rattle.bundle_rules.specs.Places.{places_from}
use Rattle.bundle_rules.specs.Existence.Members.{has-here, has-there, has-cases, has-above}
use Rattle.bundle_rules.specs.Wishes.{adjustments}
use Rattle.bundle_rules.specs.Menus.{by_place, adjustment_in, rating_at, credits_at}
use Rattle.bundle_bounds.specs.Offers.{OfferData, price_at}
use Rattle.bundle_bounds.proofs.Gains.{at_most_above, gain, gain-more}
use Rattle.demand_oracle.specs.declared.multipliers.Multipliers.{Multipliers}
use Rattle.demand_oracle.specs.Covers.{AreApartFrom}
use Rattle.demand_oracle.specs.Values.{hope, hopes_from, most_added, value}

-- a sum over ascending places of a range is at most that of what is above zero over the whole range
within_range : (f : ℕ → ℤ) (h : ℕ → ℕ) (first count : ℕ) (ps : List ℕ) → IsAscending ps → ((p : ℕ) → has ps p ≡ true → first ≤ p)
    → ((p : ℕ) → has ps p ≡ true → p < first + count) → ((p : ℕ) → has ps p ≡ true → f p ≤ℤ pos (h p))
    → signed_total f ps ≤ℤ pos (total h (places_from first count))
within_range f h first count [] up low high each = omega (arith, ints)
within_range f h first zero (p ∷ ps) up low high each = let a = low p (has-here p ps) in let b = high p (has-here p ps) in absurd (omega arith)
within_range f h first (suc count) (p ∷ ps) up low high each =
    elim (cases_order first p) [
      | inl here ↦
          let rest =
          within_range f h (suc first) count ps up.1 (λ q is. let above = has-above p ps q up.0 is in omega arith)
          (λ q is. let b = high q (has-there p ps q is) in omega arith) (λ q is. each q (has-there p ps q is)) in
          let z : ℤ = signed_total f ps in
          let t : ℕ = total h (places_from (suc first) count) in
          let rest' : z ≤ℤ pos t = rest in
          let one : f p ≤ℤ pos (h p) = each p (has-here p ps) in
          let goal : (f p +ℤ z) ≤ℤ pos (h p + t) = omega (arith, ints) in
          subst (λ q. (f p +ℤ z) ≤ℤ pos (h q + t)) (sym here) goal
      | inr (inl below) ↦
          let rest =
          within_range f h (suc first) count (p ∷ ps) up (λ q is. at_least first p ps up below q is) (λ q is. let b = high q is in omega arith) each in
          let z : ℤ = signed_total f (p ∷ ps) in
          let t : ℕ = total h (places_from (suc first) count) in
          let rest' : z ≤ℤ pos t = rest in
          let goal : z ≤ℤ pos (h first + t) = omega (arith, ints) in goal
      | inr (inr above) ↦ let a = low p (has-here p ps) in absurd (omega arith)
    ]
  where
    at_least : (first p : ℕ) (ps : List ℕ) → IsAscending (p ∷ ps) → first < p → (q : ℕ) → has (p ∷ ps) q ≡ true → suc first ≤ q
    at_least first p ps up below q is =
        elim (has-cases p ps q is) [ inl here ↦ omega arith | inr there ↦ let above = has-above p ps q up.0 there in omega arith ]

-- what follows the first of apart places is apart, and after it
pub rest_from : (offer : OfferData) (k d : ℕ) (ds : List ℕ) → AreApartFrom offer k (d ∷ ds) → AreApartFrom offer (d + 1) ds
rest_from offer k d ds free = record {
  ascending = free.ascending.1;
  later = λ p is. let above = has-above d ds p free.ascending.0 is in omega arith;
  on_menu = λ p is. free.on_menu p (has-there d ds p is);
  allowed = λ p is. free.allowed p (has-there d ds p is);
  apart = λ p q is is' other. free.apart p q (has-there d ds p is) (has-there d ds q is') other;
}

module _ (offer : OfferData) where
  -- the adjustments of a place with allowed places of a range are at most what they can add
  adjustments_hope : (k place : ℕ) (ps : List ℕ) → AreApartFrom offer k ps
      → signed_total (adjustment_in offer.menu.pairs place) ps ≤ℤ pos (hopes_from offer k place)
  adjustments_hope k place ps free =
      within_range (adjustment_in offer.menu.pairs place) (hope offer place) k (length offer.menu.places - k) ps free.ascending free.later
      (λ p is. let a = free.later p is in let b = free.on_menu p is in omega arith)
      (λ p is. rw (free.allowed p is) (at_most_above (adjustment_in offer.menu.pairs place p)))

  -- among places from k on, each adds no more than the most that it can
  gain_alone : (k : ℕ) (ds : List ℕ) → AreApartFrom offer k ds → gain (by_place offer.menu) [] ds ≤ℤ pos (total (most_added offer) ds)
  unfolding by_place
  gain_alone k [] free = omega (arith, ints)
  gain_alone k (d ∷ ds) free =
      let later = rest_from offer k d ds free in
      let rest = gain_alone (d + 1) ds later in
      let g : ℤ = gain (by_place offer.menu) [] ds in
      let t : ℕ = total (most_added offer) ds in
      let rest' : g ≤ℤ pos t = rest in
      let x : ℤ = signed_total (adjustment_in offer.menu.pairs d) ds in
      let h : ℕ = hopes_from offer (d + 1) d in
      let hope' : x ≤ℤ pos h = adjustments_hope (d + 1) d ds later in
      let r : ℕ = rating_at offer.menu.places d in
      let goal : (((pos r +ℤ pos 0) +ℤ x) +ℤ g) ≤ℤ pos ((r + h) + t) = omega (arith, ints) in goal

  own_hope : (k c : ℕ) (ds : List ℕ) → AreApartFrom offer k ds → adjustments (by_place offer.menu) c ds ≤ℤ pos (hopes_from offer k c)
  unfolding by_place
  own_hope k c ds free = adjustments_hope k c ds free

  -- what places from k on add to chosen ones is at most what the chosen ones hope for and the most that each can add
  pub gain_hoped : (k : ℕ) (cs ds : List ℕ) → AreApartFrom offer k ds
      → gain (by_place offer.menu) cs ds ≤ℤ pos (total (hopes_from offer k) cs + total (most_added offer) ds)
  gain_hoped k [] ds free =
      let g : ℤ = gain (by_place offer.menu) [] ds in
      let t : ℕ = total (most_added offer) ds in
      let alone : g ≤ℤ pos t = gain_alone k ds free in
      let goal : g ≤ℤ pos (0 + t) = omega (arith, ints) in goal
  gain_hoped k (c ∷ cs) ds free =
      let rest = gain_hoped k cs ds free in
      let g : ℤ = gain (by_place offer.menu) (c ∷ cs) ds in
      let h : ℤ = gain (by_place offer.menu) cs ds in
      let a : ℤ = adjustments (by_place offer.menu) c ds in
      let e : g ≡ a +ℤ h = gain-more (by_place offer.menu) c cs ds in
      let s : ℕ = total (hopes_from offer k) cs in
      let t : ℕ = total (most_added offer) ds in
      let rest' : h ≤ℤ pos (s + t) = rest in
      let x : ℕ = hopes_from offer k c in
      let hope' : a ≤ℤ pos x = own_hope k c ds free in
      let goal : g ≤ℤ pos ((x + s) + t) = omega (arith, ints) in goal

  -- and the most that each can add is its value with what is paid for it
  most_added_paid : (multipliers : Multipliers) (ds : List ℕ)
      → 1000000 * total (most_added offer) ds
      ≤ total (value offer multipliers) ds + (multipliers.money * total (price_at offer) ds + multipliers.credits * total (credits_at offer.menu.places) ds)
  most_added_paid multipliers [] = omega arith
  most_added_paid multipliers (d ∷ ds) =
      let rest = most_added_paid multipliers ds in
      let a : ℕ = total (most_added offer) ds in
      let v : ℕ = total (value offer multipliers) ds in
      let p : ℕ = multipliers.money * total (price_at offer) ds in
      let l : ℕ = multipliers.credits * total (credits_at offer.menu.places) ds in
      let rest' : 1000000 * a ≤ v + (p + l) = rest in
      let b : ℕ = most_added offer d in
      let q : ℕ = multipliers.money * price_at offer d in
      let m : ℕ = multipliers.credits * credits_at offer.menu.places d in
      let first : multipliers.money * (price_at offer d + total (price_at offer) ds) ≡ q + p =
      mul-add multipliers.money (price_at offer d) (total (price_at offer) ds) in
      let second : multipliers.credits * (credits_at offer.menu.places d + total (credits_at offer.menu.places) ds) ≡ m + l =
      mul-add multipliers.credits (credits_at offer.menu.places d) (total (credits_at offer.menu.places) ds) in
      rw (first, second) (let goal : 1000000 * (b + a) ≤ ((1000000 * b - (q + m)) + v) + ((q + p) + (m + l)) = omega arith in goal)

  -- within what is left of the budget and of the credits
  pub most_added_within : (multipliers : Multipliers) (ds : List ℕ) (budget credits : ℕ) → total (price_at offer) ds ≤ budget
      → total (credits_at offer.menu.places) ds ≤ credits
      → 1000000 * total (most_added offer) ds ≤ total (value offer multipliers) ds + (multipliers.money * budget + multipliers.credits * credits)
  most_added_within multipliers ds budget credits affordable fits =
      let a : ℕ = total (most_added offer) ds in
      let v : ℕ = total (value offer multipliers) ds in
      let p : ℕ = multipliers.money * total (price_at offer) ds in
      let l : ℕ = multipliers.credits * total (credits_at offer.menu.places) ds in
      let paid : 1000000 * a ≤ v + (p + l) = most_added_paid multipliers ds in
      let b : ℕ = multipliers.money * budget in
      let c : ℕ = multipliers.credits * credits in
      let first : p ≤ b = mul-le-mul_left multipliers.money affordable in
      let second : l ≤ c = mul-le-mul_left multipliers.credits fits in
      let goal : 1000000 * a ≤ v + (b + c) = omega arith in goal
