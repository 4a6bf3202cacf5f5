-- A million times the utility of what completes a node is at most what can be reached from it.
use Rattle.std.proofs.Common.{◌≡◌, ℕ, suc, ◌+◌, ◌*◌, ◌-◌, ◌/◌, ◌^◌, ◌≤◌, ◌<◌, true, List, [], ◌∷◌, ◌++◌, length, sym, ap, subst, ◌∙◌, arith, length-append, suc-mul}
use Rattle.std.proofs.lemmas.Nat.{pow_pos}
use Rattle.std.proofs.Math.Nat.{add-mul, div-mul-le_self, le-div_iff_mul-le}
use Rattle.std.specs.Prelude.{ℤ, pos, ◌+ℤ◌, ◌*ℤ◌, ◌≤ℤ◌}
use Rattle.std.proofs.lemmas.Int.{ints}
use Rattle.std.proofs.lemmas.List.{append-nil, length-map}
use Rattle.plain_facts.proofs.Numbers.{rest_fits}
use Rattle.market_units.specs.Totals.{total}
use Rattle.market_units.proofs.Sums.{total-append}
use Rattle.market_units.specs.Members.{has}
use Rattle.bundle_rules.specs.Existence.Members.{has-here, IsAscending-rest}
use Rattle.bundle_rules.specs.Wishes.{utility}
use Rattle.bundle_rules.specs.Menus.{IsMenu, by_place, credits_at, place_in, wishes_of}
use Rattle.bundle_rules.proofs.Feasibility.{utility_by_place}
use Rattle.bundle_bounds.specs.Offers.{OfferData, places_of, price_at}
use Rattle.bundle_bounds.specs.Opens.{budget_left, credits_left}
use Rattle.bundle_bounds.specs.Laws.{IsTakable, IsNode, Completes}
use Rattle.bundle_bounds.proofs.Gains.{gain, utility-append}
use Rattle.bundle_bounds.proofs.Soundness.{same_below}
use Rattle.bundle_bounds.proofs.Openness.{MayBeTaken, has-append_right, front_of}
use Rattle.bundle_bounds.proofs.ByPlace.{taken_places, has-places}
use Rattle.demand_oracle.specs.declared.multipliers.Multipliers.{Multipliers}
use Rattle.demand_oracle.specs.Values.{hopes_from, most_added, value, units_at}
use Rattle.demand_oracle.specs.Covers.{AreApartFrom, hoped_of, reach_of}
use Rattle.demand_oracle.specs.Reaches.{IsLightest}
use Rattle.demand_oracle.specs.Laws.{ReachIsSound, ReachWithinIsSound}
use Rattle.demand_oracle.proofs.Additions.{rest_from, gain_hoped, most_added_within}

-- the places that complete chosen ones
pub record AreAdded (offer : OfferData) (k : ℕ) (cs ps ds : List ℕ) : Type 0 where
  pub split : ps ≡ cs ++ ds
  pub free : AreApartFrom offer k ds
  pub affordable : total (price_at offer) ds ≤ budget_left offer cs
  pub credits : total (credits_at offer.menu.places) ds ≤ credits_left offer cs
  pub count : length ps ≡ length cs + length ds
  pub few : length ps ≤ offer.menu.courses

pub added_places : (offer : OfferData) (k : ℕ) (chosen bundle : List ℕ) → IsMenu offer.menu → IsNode offer k chosen → IsTakable offer bundle
    → Completes offer k chosen bundle → (ds : List ℕ) × AreAdded offer k (places_of offer.menu chosen) (places_of offer.menu bundle) ds
added_places offer k chosen bundle menu node may completes =
    let cs = places_of offer.menu chosen in
    let ps = places_of offer.menu bundle in
    let first = taken_places offer chosen menu node.takable in
    let second = taken_places offer bundle menu may in
    let low : (c : ℕ) → has cs c ≡ true → c < k = λ c is. let at = has-places offer.menu.places chosen c is in rw (← at.2) (node.decided at.0 at.1) in
    let front = front_of k cs ps first.ascending second.ascending low (same_below offer k chosen bundle menu node.takable may completes) in
    let ds = front.0 in
    let taken : MayBeTaken offer (cs ++ ds) = subst (MayBeTaken offer) front.1 second in (
      ds,
      record {
        split = front.1;
        free = record {
          ascending = IsAscending-rest cs ds taken.ascending;
          later = front.2;
          on_menu = λ p is. taken.on_menu p (has-append_right cs ds p is);
          allowed = λ p is. taken.allowed p (has-append_right cs ds p is);
          apart = λ p q is is' other. taken.apart p q (has-append_right cs ds p is) (has-append_right cs ds q is') other;
        };
        affordable = rest_fits _ _ _ _ (total-append (price_at offer) cs ds) taken.affordable;
        credits = rest_fits _ _ _ _ (total-append (credits_at offer.menu.places) cs ds) taken.credits;
        count = ap length front.1 ∙ length-append cs ds;
        few = second.courses;
      },
    )

-- what is reached by added places
reached : (offer : OfferData) (multipliers : Multipliers) (k most : ℕ) (cs ps ds : List ℕ) → AreAdded offer k cs ps ds → total (value offer multipliers) ds ≤ most
    → (pos 1000000 *ℤ utility (by_place offer.menu) ps) ≤ℤ reach_of offer multipliers k cs most
reached offer multipliers k most cs ps ds added covered =
    let w = by_place offer.menu in
    let u : ℤ = utility w ps in
    let v : ℤ = utility w cs in
    let g : ℤ = gain w cs ds in
    let whole : u ≡ v +ℤ g = ap (utility w) added.split ∙ utility-append w cs ds in
    let h : ℕ = total (hopes_from offer k) cs in
    let a : ℕ = total (most_added offer) ds in
    let gains : g ≤ℤ pos (h + a) = gain_hoped offer k cs ds added.free in
    let x : ℕ = total (value offer multipliers) ds in
    let m : ℕ = multipliers.money * budget_left offer cs + multipliers.credits * credits_left offer cs in
    let paid : 1000000 * a ≤ x + m = most_added_within offer multipliers ds (budget_left offer cs) (credits_left offer cs) added.affordable added.credits in
    let covered' : x ≤ most = covered in
    let goal : (pos 1000000 *ℤ u) ≤ℤ ((pos 1000000 *ℤ (v +ℤ pos h)) +ℤ pos (m + most)) = omega (arith, ints) in goal

-- and by a bundle, where a number covers so many places as it may add
reached_by : (offer : OfferData) (multipliers : Multipliers) (k : ℕ) (chosen bundle : List ℕ) (count most : ℕ) → IsMenu offer.menu → IsNode offer k chosen
    → IsTakable offer bundle → Completes offer k chosen bundle → length bundle ≤ length chosen + count
    →
    ((ds : List ℕ) → AreAdded offer k (places_of offer.menu chosen) (places_of offer.menu bundle) ds → length ds ≤ count
    → total (value offer multipliers) ds ≤ most)
    → (pos 1000000 *ℤ utility (wishes_of offer.menu) bundle) ≤ℤ reach_of offer multipliers k (places_of offer.menu chosen) most
reached_by offer multipliers k chosen bundle count most menu node may completes few covers =
    let cs = places_of offer.menu chosen in
    let ps = places_of offer.menu bundle in
    let added = added_places offer k chosen bundle menu node may completes in
    let ds = added.0 in
    let whole : length ps ≡ length bundle = length-map bundle (place_in offer.menu.places) in
    let front : length cs ≡ length chosen = length-map chosen (place_in offer.menu.places) in
    let split : length ps ≡ length cs + length ds = added.1.count in
    let within : length ds ≤ count = omega arith in
    subst (λ u. (pos 1000000 *ℤ u) ≤ℤ reach_of offer multipliers k cs most) (utility_by_place offer.menu bundle)
    (reached offer multipliers k most cs ps ds added.1 (covers ds added.1 within))

pub reach_is_sound : ReachIsSound
reach_is_sound offer multipliers k chosen bundle count most menu node may completes few covers =
    reached_by offer multipliers k chosen bundle count most menu node may completes few (λ ds added within. covers ds added.free within)

-- where no place more is taken, no more is reached than what is hoped for
alone_reached : (offer : OfferData) (k : ℕ) (cs ds : List ℕ) → length ds ≤ 0 → (pos 1000000 *ℤ utility (by_place offer.menu) (cs ++ ds)) ≤ℤ hoped_of offer k cs
alone_reached offer k cs [] none =
    let u : ℤ = utility (by_place offer.menu) cs in
    let h : ℕ = total (hopes_from offer k) cs in
    let goal : (pos 1000000 *ℤ u) ≤ℤ (pos 1000000 *ℤ (u +ℤ pos h)) = omega (arith, ints) in
    subst (λ ps. (pos 1000000 *ℤ utility (by_place offer.menu) ps) ≤ℤ hoped_of offer k cs) (sym (append-nil cs)) goal
alone_reached offer k cs (d ∷ ds) none = absurd (omega arith)

pub none_reached : (offer : OfferData) (k : ℕ) (chosen bundle : List ℕ) → IsMenu offer.menu → IsNode offer k chosen → IsTakable offer bundle
    → Completes offer k chosen bundle → length bundle ≤ length chosen
    → (pos 1000000 *ℤ utility (wishes_of offer.menu) bundle) ≤ℤ hoped_of offer k (places_of offer.menu chosen)
none_reached offer k chosen bundle menu node may completes few =
    let cs = places_of offer.menu chosen in
    let ps = places_of offer.menu bundle in
    let added = added_places offer k chosen bundle menu node may completes in
    let ds = added.0 in
    let whole : length ps ≡ length bundle = length-map bundle (place_in offer.menu.places) in
    let front : length cs ≡ length chosen = length-map chosen (place_in offer.menu.places) in
    let split : length ps ≡ length cs + length ds = added.1.count in
    let none : length ds ≤ 0 = omega arith in
    subst (λ u. (pos 1000000 *ℤ u) ≤ℤ hoped_of offer k cs) (ap (utility (by_place offer.menu)) (sym added.1.split) ∙ utility_by_place offer.menu bundle)
    (alone_reached offer k cs ds none)

-- whole units of places are no more than those of their prices
units_times : (offer : OfferData) (shift : ℕ) (ds : List ℕ) → total (units_at offer shift) ds * 2 ^ shift ≤ total (price_at offer) ds
units_times offer shift [] = omega arith
units_times offer shift (d ∷ ds) =
    let rest = units_times offer shift ds in
    let price : ℕ = price_at offer d in
    let prices : ℕ = total (price_at offer) ds in
    let cost : ℕ = units_at offer shift d in
    let costs : ℕ = total (units_at offer shift) ds in
    let rest' : costs * 2 ^ shift ≤ prices = rest in
    let one : cost * 2 ^ shift ≤ price = div-mul-le_self price (2 ^ shift) in
    let split : (cost + costs) * 2 ^ shift ≡ cost * 2 ^ shift + costs * 2 ^ shift = add-mul cost costs (2 ^ shift) in
    rw split (let goal : cost * 2 ^ shift + costs * 2 ^ shift ≤ price + prices = omega arith in goal)

units_fit : (offer : OfferData) (shift budget : ℕ) (ds : List ℕ) → total (price_at offer) ds ≤ budget → total (units_at offer shift) ds ≤ budget / 2 ^ shift
units_fit offer shift budget ds affordable =
    let costs : ℕ = total (units_at offer shift) ds in
    let prices : ℕ = total (price_at offer) ds in
    let times : costs * 2 ^ shift ≤ prices = units_times offer shift ds in
    let within : prices ≤ budget = affordable in
    let fits : costs * 2 ^ shift ≤ budget = omega arith in
    (le-div_iff_mul-le (pow_pos shift)).1 fits

pub reach_within_is_sound : ReachWithinIsSound
reach_within_is_sound offer multipliers shift k chosen bundle count most menu node may completes few covers =
    reached_by offer multipliers k chosen bundle count (1000 * most) menu node may completes few
    (λ ds added within. covers ds added.free within (units_fit offer shift (budget_left offer (places_of offer.menu chosen)) ds added.affordable))

-- so many places have at least so many times the credits of the lightest
lightest_times : (offer : OfferData) (lightest k : ℕ) (ds : List ℕ) → IsLightest offer lightest → AreApartFrom offer k ds
    → length ds * lightest ≤ total (credits_at offer.menu.places) ds
lightest_times offer lightest k [] light free = omega arith
lightest_times offer lightest k (d ∷ ds) light free =
    let rest = lightest_times offer lightest (d + 1) ds light (rest_from offer k d ds free) in
    let n : ℕ = length ds in
    let t : ℕ = total (credits_at offer.menu.places) ds in
    let rest' : n * lightest ≤ t = rest in
    let one : lightest ≤ credits_at offer.menu.places d = light d (free.on_menu d (has-here d ds)) (free.allowed d (has-here d ds)) in
    let split : suc n * lightest ≡ n * lightest + lightest = suc-mul n lightest in
    rw split (let goal : n * lightest + lightest ≤ credits_at offer.menu.places d + t = omega arith in goal)

-- what completes a node has no more sections than fit the course cap and the credits of the lightest
pub fits_count : (offer : OfferData) (k : ℕ) (chosen bundle : List ℕ) (lightest courses credits count : ℕ) → IsMenu offer.menu → IsNode offer k chosen
    → IsTakable offer bundle → Completes offer k chosen bundle → IsLightest offer lightest
    → courses ≡ offer.menu.courses - length chosen → credits ≡ credits_left offer (places_of offer.menu chosen)
    → ((n : ℕ) → n ≤ courses → n * lightest ≤ credits → n ≤ count) → length bundle ≤ length chosen + count
fits_count offer k chosen bundle lightest courses credits count menu node may completes light courses_are credits_are enough =
    let cs = places_of offer.menu chosen in
    let ps = places_of offer.menu bundle in
    let added = added_places offer k chosen bundle menu node may completes in
    let n : ℕ = length added.0 in
    let whole : length ps ≡ length bundle = length-map bundle (place_in offer.menu.places) in
    let front : length cs ≡ length chosen = length-map chosen (place_in offer.menu.places) in
    let split : length ps ≡ length cs + n = added.1.count in
    let few : length ps ≤ offer.menu.courses = added.1.few in
    let times : n * lightest ≤ total (credits_at offer.menu.places) added.0 = lightest_times offer lightest k added.0 light added.1.free in
    let within : total (credits_at offer.menu.places) added.0 ≤ credits_left offer cs = added.1.credits in
    let fit : n ≤ count = enough n (omega arith) (rw credits_are (omega arith)) in
    omega arith
