-- Each bound at a node is at least 1000 times the utility of what completes it.
use Rattle.std.proofs.Common.{◌≡◌, ℕ, ◌+◌, ◌*◌, ◌-◌, ◌/◌, ◌≤◌, ◌<◌, Bool, true, false, ◌&&◌, List, [], ◌∷◌, ◌++◌, length, refl, sym, ap, subst, ◌∙◌, arith, inl, inr, length-append}
use Rattle.std.specs.Prelude.{ℤ, pos, ◌+ℤ◌, ◌*ℤ◌, ◌≤ℤ◌, nat_lt}
use Rattle.std.proofs.lemmas.Bool.{cases_Bool, cases_lt}
use Rattle.std.proofs.lemmas.Int.{ints}
use Rattle.plain_facts.proofs.Numbers.{rest_fits}
use Rattle.market_units.specs.Totals.{total}
use Rattle.market_units.specs.Subsets.{chosen}
use Rattle.market_units.proofs.Sums.{total-append}
use Rattle.market_units.specs.Members.{has}
use Rattle.bundle_rules.specs.Sets.{IsAscending}
use Rattle.bundle_rules.specs.Wishes.{utility}
use Rattle.bundle_rules.specs.Menus.{IsMenu, wishes_of, by_place, credits_at}
use Rattle.bundle_rules.proofs.Feasibility.{utility_by_place}
use Rattle.bundle_bounds.specs.declared.prospects.Prospect.{Prospect}
use Rattle.bundle_bounds.specs.declared.prospects.Resource.{Resource}
use Rattle.bundle_bounds.specs.declared.prospects.Resource.TheVariants.{Money, Credits, Count}
use Rattle.bundle_bounds.specs.declared.nodes.Leaf.{Leaf}
use Rattle.bundle_bounds.specs.Offers.{OfferData, places_of, price_at}
use Rattle.bundle_bounds.specs.Courses.{takes_of, by_course}
use Rattle.bundle_bounds.specs.Opens.{left_of, open_places, prospects}
use Rattle.bundle_bounds.specs.Bounds.{base_of, over_price, at_price, resource_bounds, bounds_over, bounds}
use Rattle.bundle_bounds.specs.Laws.{IsTakable, Completes, EachAtLeast, BoundSoundness}
use Rattle.bundle_bounds.proofs.Courses.{AreApartCourses, chosen_by_course, priced_within}
use Rattle.bundle_bounds.proofs.Gains.{gain, utility-append, gain_bound}
use Rattle.bundle_bounds.proofs.Openness.{MayBeTaken, has-append_right, front_of, is_open-more, among_opens, prices_of, credits_of, count_of, courses_apart, other_course}
use Rattle.bundle_bounds.proofs.ByPlace.{has_by_place, on_menu, taken_places, has-places}
use Rattle.bundle_rules.specs.Existence.Members.{IsAscending-rest}

each-append : (least : ℤ) (as' bs : List (Leaf × ℤ)) → EachAtLeast least as' → EachAtLeast least bs → EachAtLeast least (as' ++ bs)
each-append least [] bs first second = second
each-append least (a ∷ as') bs first second = (first.0, each-append least as' bs first.1 second)

total_times : (qs : List Prospect) → total (λ p. 1000 * p.worth) qs ≡ 1000 * total (λ p. p.worth) qs
total_times [] = refl
total_times (q ∷ qs) =
    let rest = total_times qs in
    let a : ℕ = total (λ p. 1000 * p.worth) qs in
    let b : ℕ = total (λ p. p.worth) qs in
    let rest' : a ≡ 1000 * b = rest in
    let goal : 1000 * q.worth + a ≡ 1000 * (q.worth + b) = omega arith in goal

module _ (offer : OfferData) (cs : List ℕ) (u : ℤ) (ps : List Prospect) (bs : List Bool) (apart : AreApartCourses (chosen bs ps))
    (reached : u ≤ℤ (pos 1000 *ℤ utility (by_place offer.menu) cs +ℤ pos (1000 * total (λ p. p.worth) (chosen bs ps)))) where
  plain_sound : u ≤ℤ (base_of offer cs +ℤ pos (by_course (λ p. 1000 * p.worth) ps))
  plain_sound =
      let v : ℤ = pos 1000 *ℤ utility (by_place offer.menu) cs in
      let a : ℕ = 1000 * total (λ p. p.worth) (chosen bs ps) in
      let t : ℕ = total (λ p. 1000 * p.worth) (chosen bs ps) in
      let b : ℕ = by_course (λ p. 1000 * p.worth) ps in
      let same : t ≡ a = total_times (chosen bs ps) in
      let below : t ≤ b = chosen_by_course (λ p. 1000 * p.worth) bs ps apart in
      let reached' : u ≤ℤ (v +ℤ pos a) = reached in
      let goal : u ≤ℤ (v +ℤ pos b) = omega (arith, ints) in goal

  price_sound : (resource : Resource) (rest price : ℕ) → total (takes_of resource) (chosen bs ps) ≤ rest
      → u ≤ℤ (base_of offer cs +ℤ pos (at_price resource rest price ps))
  price_sound resource rest price fits =
      let v : ℤ = pos 1000 *ℤ utility (by_place offer.menu) cs in
      let a : ℕ = 1000 * total (λ p. p.worth) (chosen bs ps) in
      let o : ℕ = total (over_price resource price) (chosen bs ps) in
      let b : ℕ = by_course (over_price resource price) ps in
      let m : ℕ = price * rest in
      let first : a ≤ o + m = priced_within resource price rest (chosen bs ps) fits in
      let second : o ≤ b = chosen_by_course (over_price resource price) bs ps apart in
      let reached' : u ≤ℤ (v +ℤ pos a) = reached in
      let goal : u ≤ℤ (v +ℤ pos (m + b)) = omega (arith, ints) in goal

  resource_sound : (resource : Resource) (qs : List Prospect) → total (takes_of resource) (chosen bs ps) ≤ left_of offer cs resource
      → EachAtLeast u (resource_bounds (base_of offer cs) (left_of offer cs resource) resource ps qs)
  resource_sound resource [] fits = tt
  resource_sound resource (q ∷ qs) fits =
      let later = resource_sound resource qs fits in
      elim (cases_Bool (nat_lt 0 q.worth && nat_lt 0 (takes_of resource q))) [
        | inl worth ↦ rw worth (price_sound resource (left_of offer cs resource) (1000 * q.worth / takes_of resource q) fits, later)
        | inr none ↦ rw none later
      ]

  all_sound : ((resource : Resource) → total (takes_of resource) (chosen bs ps) ≤ left_of offer cs resource) → EachAtLeast u (bounds_over offer cs ps)
  all_sound fits = (
    plain_sound,
    each-append u (resource_bounds (base_of offer cs) (left_of offer cs Money) Money ps ps) _ (resource_sound Money ps (fits Money))
        (each-append u (resource_bounds (base_of offer cs) (left_of offer cs Credits) Credits ps ps) _ (resource_sound Credits ps (fits Credits))
        (resource_sound Count ps (fits Count))),
  )

-- what completes the chosen places takes no more than they leave
fits_of : (offer : OfferData) (cs : List ℕ) (bs : List Bool) (opens ds : List ℕ) → chosen bs opens ≡ ds → MayBeTaken offer (cs ++ ds) → (resource : Resource)
    → total (takes_of resource) (chosen bs (prospects offer cs opens)) ≤ left_of offer cs resource
fits_of offer cs bs opens ds same may Money = rw (prices_of offer cs bs opens, same) (rest_fits _ _ _ _ (total-append (price_at offer) cs ds) may.affordable)
fits_of offer cs bs opens ds same may Credits =
    rw (credits_of offer cs bs opens, same) (rest_fits _ _ _ _ (total-append (credits_at offer.menu.places) cs ds) may.credits)
fits_of offer cs bs opens ds same may Count = rw (count_of offer cs bs opens, same) (rest_fits _ _ _ _ (length-append cs ds) may.courses)

-- the bounds are sound for what completes chosen places by further ones
places_sound : (offer : OfferData) (k : ℕ) (cs ds : List ℕ) → IsMenu offer.menu → MayBeTaken offer (cs ++ ds) → ((c : ℕ) → has cs c ≡ true → c < k)
    → ((d : ℕ) → has ds d ≡ true → k ≤ d)
    → EachAtLeast (pos 1000 *ℤ utility (by_place offer.menu) (cs ++ ds)) (bounds offer k cs)
places_sound offer k cs ds menu may low high =
    let n = length offer.menu.places in
    let opens = open_places offer k cs in
    let within : (d : ℕ) → has ds d ≡ true → d < k + (n - k) =
    λ d is. let on = may.on_menu d (has-append_right cs ds d is) in let above = high d is in omega arith in
    let picked = among_opens offer cs k (n - k) ds (IsAscending-rest cs ds may.ascending) high within (is_open-more offer k cs ds may low high) in
    let bs = picked.0 in
    let same : chosen bs opens ≡ ds = picked.1 in
    let up : IsAscending (chosen bs opens) = rw same (IsAscending-rest cs ds may.ascending) in
    let among : (p : ℕ) → has (chosen bs opens) p ≡ true → has (cs ++ ds) p ≡ true = λ p is. has-append_right cs ds p (rw same at is) in
    let apart : AreApartCourses (chosen bs (prospects offer cs opens)) =
    courses_apart offer cs bs opens up
    (λ p q is is' other. other_course offer p q menu (may.on_menu p (among p is)) (may.on_menu q (among q is')) other
    (may.apart p q (among p is) (among q is') other)) in
    let adds = utility-append (by_place offer.menu) cs ds in
    let most : gain (by_place offer.menu) cs ds ≤ℤ pos (total (λ p. p.worth) (chosen bs (prospects offer cs opens))) =
    rw same at (gain_bound offer cs bs opens) in
    let u : ℤ = utility (by_place offer.menu) (cs ++ ds) in
    let v : ℤ = utility (by_place offer.menu) cs in
    let g : ℤ = gain (by_place offer.menu) cs ds in
    let w : ℕ = total (λ p. p.worth) (chosen bs (prospects offer cs opens)) in
    let adds' : u ≡ v +ℤ g = adds in
    let most' : g ≤ℤ pos w = most in
    let reached : (pos 1000 *ℤ u) ≤ℤ (pos 1000 *ℤ v +ℤ pos (1000 * w)) = omega (arith, ints) in
    all_sound offer cs (pos 1000 *ℤ u) (prospects offer cs opens) bs apart reached (fits_of offer cs bs opens ds same may)

-- the same members below k
pub same_below : (offer : OfferData) (k : ℕ) (chosen_ bundle : List ℕ) → IsMenu offer.menu → IsTakable offer chosen_ → IsTakable offer bundle
    → Completes offer k chosen_ bundle → (p : ℕ) → p < k → has (places_of offer.menu bundle) p ≡ has (places_of offer.menu chosen_) p
same_below offer k chosen_ bundle menu may may' completes p low =
    let places = offer.menu.places in
    elim (cases_lt p (length places)) [
      | inl on ↦
          has_by_place places bundle p menu.places.ascending (on_menu offer bundle may') on ∙ completes p low on
          ∙ sym (has_by_place places chosen_ p menu.places.ascending (on_menu offer chosen_ may) on)
      | inr off ↦ none bundle may' off ∙ sym (none chosen_ may off)
    ]
  where
    none : (ss : List ℕ) → IsTakable offer ss → length offer.menu.places ≤ p → has (places_of offer.menu ss) p ≡ false
    none ss take off =
        elim (cases_Bool (has (places_of offer.menu ss) p)) [
          | inl is ↦ let on = (taken_places offer ss menu take).on_menu p is in absurd (omega arith)
          | inr not_in ↦ not_in
        ]

pub bound_soundness : BoundSoundness
bound_soundness offer k chosen_ bundle menu node may completes =
    let cs = places_of offer.menu chosen_ in
    let ps = places_of offer.menu bundle in
    let first = taken_places offer chosen_ menu node.takable in
    let second = taken_places offer bundle menu may in
    let low : (c : ℕ) → has cs c ≡ true → c < k = λ c is. let at = has-places offer.menu.places chosen_ c is in rw (← at.2) (node.decided at.0 at.1) in
    let front = front_of k cs ps first.ascending second.ascending low (same_below offer k chosen_ bundle menu node.takable may completes) in
    let taken : MayBeTaken offer (cs ++ front.0) = subst (MayBeTaken offer) front.1 second in
    let sound = places_sound offer k cs front.0 menu taken low front.2 in
    let same : utility (by_place offer.menu) (cs ++ front.0) ≡ utility (wishes_of offer.menu) bundle =
    ap (utility (by_place offer.menu)) (sym front.1) ∙ utility_by_place offer.menu bundle in
    subst (λ u. EachAtLeast (pos 1000 *ℤ u) (bounds offer k cs)) same sound
