-- What a node keeps after one more section.
use Rattle.std.proofs.Common.{◌≡◌, ◌<◌, ◌≤◌, ◌+◌, ◌*◌, ◌%◌, ◌^◌, ◌++◌, ◌↔◌, ℕ, true, List, [], ◌∷◌, length, map, take, set, refl, sym, ◌∙◌, ap, subst, inl, inr, arith, length-append, to_z, of_z, w32}
use Rattle.std.specs.Int.{bit_at}
use Rattle.std.specs.Prelude.{ℤ, bit_or, pos, ◌+ℤ◌, neg_ℤ, ◌≤ℤ◌}
use Rattle.std.proofs.lemmas.Int.{ints}
use Rattle.std.proofs.lemmas.Grind.{take-set_at}
use Rattle.std.proofs.lemmas.List.{length-map, map-append}
use Rattle.market_units.specs.Totals.{total, signed_total}
use Rattle.market_units.proofs.Sums.{total-append}
use Rattle.market_units.specs.Members.{has}
use Rattle.bundle_rules.specs.Sets.{IsAscending}
use Rattle.bundle_rules.specs.declared.bundle.Bundle.{Bundle}
use Rattle.bundle_rules.specs.Bundles.{sections_of}
use Rattle.bundle_rules.specs.Wishes.{AllRated, utility}
use Rattle.bundle_rules.specs.Menus.{IsMenu, MenuData, wishes_of, adjustment_in, rating_at, credits_at, section_at, place_in}
use Rattle.bundle_rules.specs.Existence.Places.{on_menu_rated, section_at-place_in}
use Rattle.bundle_rules.proofs.Feasibility.{place_of_rated}
use Rattle.bundle_bounds.specs.Offers.{places_of}
use Rattle.bundle_bounds.proofs.Gains.{utility-append}
use Rattle.bundle_rules.proofs.PlacesFirst.{section_at-rises}
use Rattle.bundle_bounds.proofs.ByPlace.{place_in-section_at}
use Rattle.demand_oracle.specs.declared.summed_node.SummedNode.{SummedNode}
use Rattle.demand_oracle.specs.SummedNodes.{chosen_of, with_place_of, AreSmallSums, IsSummed}
use Rattle.bundle_bounds.proofs.Openings.{ascending-last}
use Rattle.market_units.proofs.Memberships.{has_push}
use Rattle.demand_oracle.proofs.Words.{one_more}

-- what is added up to the utility with one more section is small
pub record AreSmallParts (u adjustments : ℤ) (n rating : ℕ) : Type 0 where
  pub low : neg_ℤ (pos (1700 * n)) ≤ℤ u
  pub high : u ≤ℤ pos (1700 * n)
  pub few : n ≤ 8
  pub rating_high : rating ≤ 100
  pub adjustments_low : neg_ℤ (pos (200 * n)) ≤ℤ adjustments
  pub adjustments_high : adjustments ≤ℤ pos (200 * n)

-- as many places as sections
pub few_listed : (m : MenuData) (summed : SummedNode) (cs : List ℕ) → cs ≡ places_of m (chosen_of summed) → length cs ≤ 8
    → length (chosen_of summed) ≤ 8
few_listed m summed cs are few =
    let size : length cs ≡ length (chosen_of summed) = ap length are ∙ length-map (chosen_of summed) (place_in m.places) in omega arith

pub small_parts : (m : MenuData) (price : ℕ → ℕ) (summed : SummedNode) → IsSummed m price summed → (cs : List ℕ) (adjustments : ℤ) (rating : ℕ)
    → cs ≡ places_of m (chosen_of summed) → length (chosen_of summed) ≤ 8 → rating ≤ 100 → neg_ℤ (pos (200 * length cs)) ≤ℤ adjustments
    → adjustments ≤ℤ pos (200 * length cs) → AreSmallParts summed.utility adjustments (length (chosen_of summed)) rating
small_parts m price summed is cs adjustments rating are few rating_high low high =
    let size : length cs ≡ length (chosen_of summed) = ap length are ∙ length-map (chosen_of summed) (place_in m.places) in record {
      low = is.small.utility_low;
      high = is.small.utility_high;
      few = few;
      rating_high = rating_high;
      adjustments_low = rw size at low;
      adjustments_high = rw size at high;
    }

-- so the sum is what it is computed as
pub parts_sum : (u adjustments read : ℤ) (n rating : ℕ) → AreSmallParts u adjustments n rating → read ≡ pos rating
    → to_z w32 (of_z w32 (to_z w32 (of_z w32 (to_z w32 (of_z w32 u) +ℤ to_z w32 (of_z w32 read))) +ℤ to_z w32 (of_z w32 adjustments)))
    ≡ (u +ℤ pos rating) +ℤ adjustments
parts_sum u adjustments read n rating parts is =
    let low = parts.low in
    let high = parts.high in
    let few = parts.few in
    let rating_high = parts.rating_high in
    let adjustments_low = parts.adjustments_low in
    let adjustments_high = parts.adjustments_high in
    omega (arith, ints)

-- and is small
pub parts_low : (u adjustments : ℤ) (n rating : ℕ) → AreSmallParts u adjustments n rating
    → neg_ℤ (pos (1700 * (n + 1))) ≤ℤ ((u +ℤ pos rating) +ℤ adjustments)
parts_low u adjustments n rating parts =
    let low = parts.low in
    let few = parts.few in
    let adjustments_low = parts.adjustments_low in
    omega (arith, ints)

pub parts_high : (u adjustments : ℤ) (n rating : ℕ) → AreSmallParts u adjustments n rating
    → ((u +ℤ pos rating) +ℤ adjustments) ≤ℤ pos (1700 * (n + 1))
parts_high u adjustments n rating parts =
    let high = parts.high in
    let few = parts.few in
    let rating_high = parts.rating_high in
    let adjustments_high = parts.adjustments_high in
    omega (arith, ints)

signed_total-map : (f : ℕ → ℤ) (g : ℕ → ℕ) (xs : List ℕ) → signed_total f (map g xs) ≡ signed_total (λ x. f (g x)) xs
signed_total-map f g [] = refl
signed_total-map f g (x ∷ xs) = ap (λ z. f (g x) +ℤ z) (signed_total-map f g xs)

module _ (m : MenuData) (menu : IsMenu m) (price : ℕ → ℕ) (summed : SummedNode) (is : IsSummed m price summed) (place : ℕ)
    (later : summed.node.place ≤ place) (low : place < length m.places) where
  place_of_next : place_in m.places (section_at m.places place) ≡ place
  place_of_next = place_in-section_at m.places place menu.places.ascending low

  -- the chosen sections are below the next one
  chosen_below : (t : ℕ) → has (chosen_of summed) t ≡ true → t < section_at m.places place
  chosen_below t in_it =
      let on = place_of_rated m (chosen_of summed) is.rated t in_it in
      let at : section_at m.places (place_in m.places t) ≡ t = section_at-place_in m.places t on in
      subst (λ x. x < section_at m.places place) at
      (section_at-rises m.places (place_in m.places t) place menu.places.ascending (let before = is.decided t in_it in omega arith) low)

  pub ascending_next : IsAscending (chosen_of summed) → IsAscending (with_place_of m summed place)
  ascending_next up = ascending-last (chosen_of summed) (section_at m.places place) up chosen_below

  pub rated_next : AllRated (wishes_of m) (with_place_of m summed place)
  unfolding wishes_of
  rated_next t in_it = elim (has_push (chosen_of summed) (section_at m.places place) t in_it) [
    | inl before ↦ is.rated t before
    | inr last ↦ rw (← last, place_of_next) (on_menu_rated m.places place menu.places.each low)
  ]

  pub decided_next : (s : ℕ) → has (with_place_of m summed place) s ≡ true → place_in m.places s < place + 1
  decided_next s in_it = elim (has_push (chosen_of summed) (section_at m.places place) s in_it) [
    | inl before ↦ let at = is.decided s before in omega arith
    | inr last ↦ let at : place_in m.places s ≡ place = ap (place_in m.places) (sym last) ∙ place_of_next in omega arith
  ]

  pub places_next : length (chosen_of summed) < length summed.places
      → take (length (with_place_of m summed place)) (set summed.places (length (chosen_of summed)) place) ≡ places_of m (with_place_of m summed place)
  places_next room =
      let chosen = chosen_of summed in
      let more : length (with_place_of m summed place) ≡ length chosen + 1 = length-append chosen (section_at m.places place ∷ []) in
      take-set_at summed.places (length chosen) (length (with_place_of m summed place)) place more room
      ∙ ap (λ l. l ++ place ∷ []) is.places
      ∙ ap (λ p. places_of m chosen ++ p ∷ []) (sym place_of_next)
      ∙ sym (map-append (place_in m.places) chosen (section_at m.places place ∷ []))

  pub word_next : (p : ℕ) → (bit_at (bit_or summed.word (1 * 2 ^ place % 2 ^ 64)) p ≡ 1) ↔ (has (places_of m (with_place_of m summed place)) p ≡ true)
  word_next p =
      let chosen = chosen_of summed in
      let few : length m.places ≤ 60 = menu.places.few in
      let all : places_of m chosen ++ place ∷ [] ≡ places_of m (with_place_of m summed place) =
      ap (λ k. places_of m chosen ++ k ∷ []) (sym place_of_next) ∙ sym (map-append (place_in m.places) chosen (section_at m.places place ∷ [])) in
      subst (λ l. (bit_at (bit_or summed.word (1 * 2 ^ place % 2 ^ 64)) p ≡ 1) ↔ (has l p ≡ true)) all
      (one_more place (places_of m chosen) summed.word (omega (arith, few, low)) is.word p)

  pub paid_next : total price (with_place_of m summed place) ≡ summed.paid + price (section_at m.places place)
  paid_next =
      let t : ℕ = total price (chosen_of summed) in
      let p : ℕ = price (section_at m.places place) in
      let whole : total price (with_place_of m summed place) ≡ t + (p + 0) = total-append price (chosen_of summed) (section_at m.places place ∷ []) in
      let before : summed.paid ≡ t = is.paid in omega arith

  pub credits_next : total (wishes_of m).credits (with_place_of m summed place) ≡ summed.credits + credits_at m.places place
  unfolding wishes_of
  credits_next =
      let t : ℕ = total (wishes_of m).credits (chosen_of summed) in
      let p : ℕ = credits_at m.places (place_in m.places (section_at m.places place)) in
      let whole : total (wishes_of m).credits (with_place_of m summed place) ≡ t + (p + 0) =
      total-append (wishes_of m).credits (chosen_of summed) (section_at m.places place ∷ []) in
      let before : summed.credits ≡ t = is.credits in
      let own : p ≡ credits_at m.places place = ap (credits_at m.places) place_of_next in omega arith

  pub utility_next : (adjustments : ℤ) → adjustments ≡ signed_total (λ other. adjustment_in m.pairs other place) (places_of m (chosen_of summed))
      → utility (wishes_of m) (with_place_of m summed place) ≡ (summed.utility +ℤ pos (rating_at m.places place)) +ℤ adjustments
  unfolding wishes_of
  utility_next adjustments are =
      let chosen = chosen_of summed in
      let s : ℕ = section_at m.places place in
      let u : ℤ = utility (wishes_of m) chosen in
      let r : ℕ = rating_at m.places (place_in m.places s) in
      let a : ℤ = signed_total (λ c. adjustment_in m.pairs (place_in m.places c) (place_in m.places s)) chosen in
      let whole : utility (wishes_of m) (with_place_of m summed place) ≡ u +ℤ (((pos r +ℤ a) +ℤ pos 0) +ℤ pos 0) = utility-append (wishes_of m) chosen (s ∷ []) in
      let before : summed.utility ≡ u = is.utility in
      let own : r ≡ rating_at m.places place = ap (rating_at m.places) place_of_next in
      let by_place : adjustments ≡ a =
      are ∙ signed_total-map (λ other. adjustment_in m.pairs other place) (place_in m.places) chosen
      ∙ ap (λ k. signed_total (λ c. adjustment_in m.pairs (place_in m.places c) k) chosen) (sym place_of_next) in
      omega (arith, ints)

  -- the node with one more section
  pub next_summed : (bundle : Bundle) (ps : List ℕ) (wide : length ps ≡ 8) (word paid credits : ℕ) (utility_ : ℤ) → sections_of bundle ≡ with_place_of m summed place
      → take (length (with_place_of m summed place)) ps ≡ places_of m (with_place_of m summed place)
      → ((p : ℕ) → (bit_at word p ≡ 1) ↔ (has (places_of m (with_place_of m summed place)) p ≡ true))
      → paid ≡ total price (with_place_of m summed place) → credits ≡ total (wishes_of m).credits (with_place_of m summed place)
      → utility_ ≡ utility (wishes_of m) (with_place_of m summed place)
      → AreSmallSums (length (with_place_of m summed place)) paid credits utility_
      → IsSummed m price
      (record { node = record { place = place + 1; chosen = bundle }; places = ps; word = word; paid = paid; credits = credits; utility = utility_; wide = wide })
  next_summed bundle ps wide word paid credits utility_ same places word_is paid_is credits_are utility_is small = record {
    rated = subst (AllRated (wishes_of m)) (sym same) rated_next;
    decided = subst (λ l. (s : ℕ) → has l s ≡ true → place_in m.places s < place + 1) (sym same) decided_next;
    places = subst (λ l. take (length l) ps ≡ places_of m l) (sym same) places;
    word = subst (λ l. (p : ℕ) → (bit_at word p ≡ 1) ↔ (has (places_of m l) p ≡ true)) (sym same) word_is;
    paid = subst (λ l. paid ≡ total price l) (sym same) paid_is;
    credits = subst (λ l. credits ≡ total (wishes_of m).credits l) (sym same) credits_are;
    utility = subst (λ l. utility_ ≡ utility (wishes_of m) l) (sym same) utility_is;
    small = subst (λ l. AreSmallSums (length l) paid credits utility_) (sym same) small;
  }
