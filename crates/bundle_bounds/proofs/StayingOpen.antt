-- What is open beside one more chosen place was open without it.
use Rattle.std.proofs.Common.{◌≡◌, ℕ, zero, suc, ◌+◌, ◌-◌, ◌≤◌, ◌<◌, Bool, true, false, ◌&&◌, List, [], ◌∷◌, ◌++◌, length, length-append, map, drop, get_or, set, Some, refl, sym, ap, subst, ◌∙◌, arith, inl, inr}
use Rattle.std.specs.Prelude.{ℤ, pos, ◌+ℤ◌, slice_get, nat_le, not, filter}
use Rattle.std.specs.List.{AllByRecursion}
use Rattle.std.specs.Ordering.{nat_cmp}
use Rattle.std.specs.FinSet as fin
use Rattle.std.proofs.lemmas.Bool.{cases_Bool}
use Rattle.std.proofs.lemmas.List.Folds.{list_all-append}
use Rattle.plain_facts.proofs.Truths.{and_parts}
use Rattle.market_units.specs.declared.units.Tokens.{Tokens}
use Rattle.market_units.specs.Totals.{total, signed_total}
use Rattle.market_units.proofs.Sums.{total-append, total-map}
use Rattle.bundle_rules.specs.declared.menu.Rated.{Rated}
use Rattle.bundle_rules.specs.Menus.{MenuData, rating_at, credits_at, adjustment_in, clash_in}
use Rattle.bundle_rules.specs.Existence.Places.{rating_at-is}
use Rattle.bundle_bounds.specs.declared.prospects.Prospect.{Prospect}
use Rattle.bundle_bounds.specs.Offers.{OfferData, offer_of, price_at}
use Rattle.bundle_bounds.specs.Opens.{above_zero, is_apart, is_open, budget_left, credits_left, courses_left, opens_from, prospect, prospects}
use Rattle.bundle_bounds.proofs.Openings.{open_facts, open_of}
use Rattle.bundle_bounds.proofs.Outlook.{places-prospects, put_front}
use Rattle.bundle_bounds.proofs.Steps.{no_prospect}

-- an open place beside other chosen ones and before other open ones
pub beside_is : (menu : MenuData) (prices : List Tokens) (budget : ℕ) (allowed : fin.FinSet nat_cmp) (before chosen : List ℕ) (place : ℕ) (others : List ℕ)
    (later : List Prospect) (one : Prospect) (rated : Rated) (worth : ℕ) (a : ℤ) (h : ℕ)
    → one ≡ prospect (offer_of menu prices budget allowed) before place others → slice_get menu.places place ≡ Some rated
    → worth ≡ above_zero ((pos rated.rating +ℤ a) +ℤ pos h)
    → a ≡ signed_total (λ other. adjustment_in menu.pairs other place) chosen
    → h ≡ total (λ other. above_zero (adjustment_in menu.pairs place other.place)) later
    → ◌≡◌ {A = Prospect} (record { place = place; course = one.course; worth = worth; price = one.price; credits = one.credits })
    (prospect (offer_of menu prices budget allowed) chosen place (map (λ other. other.place) later))
beside_is menu prices budget allowed before chosen place others later one rated worth a h one_is at worth_is a_is h_is =
    let r = rating_at menu.places place in
    let rating_is : rated.rating ≡ r = sym (rating_at-is menu.places place rated at) in
    let s = signed_total (λ other. adjustment_in menu.pairs other place) chosen in
    let hopes_is : h ≡ total (λ other. above_zero (adjustment_in menu.pairs place other)) (map (λ other. other.place) later) =
    h_is ∙ sym (total-map (λ other. above_zero (adjustment_in menu.pairs place other)) (λ other. other.place) later) in
    let second =
    worth_is ∙ ap (λ x. above_zero ((pos x +ℤ a) +ℤ pos h)) rating_is ∙ ap (λ x. above_zero ((pos r +ℤ x) +ℤ pos h)) a_is
    ∙ ap (λ x. above_zero ((pos r +ℤ s) +ℤ pos x)) hopes_is in
    λ i. record { place = place; course = (one_is i).course; worth = second i; price = (one_is i).price; credits = (one_is i).credits }

less_left : (a b c : ℕ) → a ≤ b - c → a ≤ b
less_left a b c low = omega arith

module _ (offer : OfferData) (before : List ℕ) (place : ℕ) where
  apart_split : (t : ℕ) → is_apart offer (before ++ place ∷ []) t ≡ (is_apart offer before t && (not (clash_in offer.menu.clashes t place) && true))
  apart_split t = list_all-append (λ other. not (clash_in offer.menu.clashes t other)) before (place ∷ [])

  budget_less : budget_left offer (before ++ place ∷ []) ≡ budget_left offer before - price_at offer place
  budget_less =
      let t : ℕ = total (price_at offer) before in
      let p : ℕ = price_at offer place in
      let w : ℕ = total (price_at offer) (before ++ place ∷ []) in
      let whole : w ≡ t + (p + 0) = total-append (price_at offer) before (place ∷ []) in
      let goal : offer.budget - w ≡ (offer.budget - t) - p = omega arith in goal

  credits_less : credits_left offer (before ++ place ∷ []) ≡ credits_left offer before - credits_at offer.menu.places place
  credits_less =
      let t : ℕ = total (credits_at offer.menu.places) before in
      let p : ℕ = credits_at offer.menu.places place in
      let w : ℕ = total (credits_at offer.menu.places) (before ++ place ∷ []) in
      let whole : w ≡ t + (p + 0) = total-append (credits_at offer.menu.places) before (place ∷ []) in
      let goal : offer.menu.credits - w ≡ (offer.menu.credits - t) - p = omega arith in goal

  courses_less : courses_left offer (before ++ place ∷ []) ≡ courses_left offer before - 1
  courses_less =
      let t : ℕ = length before in
      let w : ℕ = length (before ++ place ∷ []) in
      let whole : w ≡ t + 1 = length-append before (place ∷ []) in
      let goal : offer.menu.courses - w ≡ (offer.menu.courses - t) - 1 = omega arith in goal

  pub rests_less : (x y z x' y' z' price credits : ℕ) → x ≡ budget_left offer before → y ≡ credits_left offer before → z ≡ courses_left offer before
      → price ≡ price_at offer place → credits ≡ credits_at offer.menu.places place
      → x' ≡ x - price → y' ≡ y - credits → z' ≡ z - 1
      → (x' ≡ budget_left offer (before ++ place ∷ [])) × (y' ≡ credits_left offer (before ++ place ∷ [])) × (z' ≡ courses_left offer (before ++ place ∷ []))
  rests_less x y z x' y' z' price credits x_is y_is z_is price_is credits_is x'_is y'_is z'_is = (
    x'_is ∙ (λ i. x_is i - price_is i) ∙ sym budget_less,
    y'_is ∙ (λ i. y_is i - credits_is i) ∙ sym credits_less,
    z'_is ∙ ap (λ n. n - 1) z_is ∙ sym courses_less,
  )

  -- what is open beside one more place is open without it
  pub open_before : (t : ℕ) → is_open offer (before ++ place ∷ []) t ≡ true → is_open offer before t ≡ true
  open_before t is =
      let facts = open_facts offer (before ++ place ∷ []) t is in
      open_of offer before t record {
        allowed = facts.allowed;
        apart = (and_parts (is_apart offer before t) _ (sym (apart_split t) ∙ facts.apart)).0;
        price = less_left (price_at offer t) (budget_left offer before) (price_at offer place) (subst (λ n. price_at offer t ≤ n) budget_less facts.price);
        credits =
            less_left (credits_at offer.menu.places t) (credits_left offer before) (credits_at offer.menu.places place)
            (subst (λ n. credits_at offer.menu.places t ≤ n) credits_less facts.credits);
        courses = less_left 1 (courses_left offer before) 1 (subst (λ n. 1 ≤ n) courses_less facts.courses);
      }

  and_true : (b : Bool) → (b && true) ≡ b
  and_true true = refl
  and_true false = refl

  -- an open place stays open where it does not clash with the new one, and is within what that leaves
  pub open_beside : (t : ℕ) (others : List ℕ) (one : Prospect) (x y z : ℕ) (b : Bool) → is_open offer before t ≡ true → one ≡ prospect offer before t others
      → x ≡ budget_left offer (before ++ place ∷ []) → y ≡ credits_left offer (before ++ place ∷ []) → z ≡ courses_left offer (before ++ place ∷ [])
      → b ≡ (not (clash_in offer.menu.clashes t place) && (nat_le one.price x && (nat_le one.credits y && nat_le 1 z)))
      → b ≡ is_open offer (before ++ place ∷ []) t
  open_beside t others one x y z b is one_is x_is y_is z_is b_is =
      let facts = open_facts offer before t is in
      let price_is : one.price ≡ price_at offer t = ap (λ p. p.price) one_is in
      let credits_is : one.credits ≡ credits_at offer.menu.places t = ap (λ p. p.credits) one_is in
      let apart : is_apart offer (before ++ place ∷ []) t ≡ not (clash_in offer.menu.clashes t place) =
      apart_split t ∙ ap (λ c. c && (not (clash_in offer.menu.clashes t place) && true)) facts.apart ∙ and_true (not (clash_in offer.menu.clashes t place)) in
      let left : b ≡ (not (clash_in offer.menu.clashes t place) && (nat_le (price_at offer t) (budget_left offer (before ++ place ∷ [])) && (nat_le (credits_at offer.menu.places t) (credits_left offer (before ++ place ∷ [])) && nat_le 1 (courses_left offer (before ++ place ∷ [])))))
      = b_is ∙ (λ i. not (clash_in offer.menu.clashes t place) && (nat_le (price_is i) (x_is i) && (nat_le (credits_is i) (y_is i) && nat_le 1 (z_is i)))) in
      let right : is_open offer (before ++ place ∷ []) t ≡ (not (clash_in offer.menu.clashes t place) && (nat_le (price_at offer t) (budget_left offer (before ++ place ∷ [])) && (nat_le (credits_at offer.menu.places t) (credits_left offer (before ++ place ∷ [])) && nat_le 1 (courses_left offer (before ++ place ∷ [])))))
      =
      λ i. facts.allowed i
      && (apart i
      && (nat_le (price_at offer t) (budget_left offer (before ++ place ∷ []))
      && (nat_le (credits_at offer.menu.places t) (credits_left offer (before ++ place ∷ []))
      && nat_le 1 (courses_left offer (before ++ place ∷ []))))) in
      left ∙ sym right

  -- the open places beside one more are those of before that stay open
  pub opens_filter : (j n : ℕ) → filter (is_open offer (before ++ place ∷ [])) (opens_from offer before j n) ≡ opens_from offer (before ++ place ∷ []) j n
  opens_filter j zero = refl
  opens_filter j (suc n) = elim (cases_Bool (is_open offer (before ++ place ∷ []) j)) [
    | inl opened ↦ rw (open_before j opened, opened) (ap (λ l. j ∷ l) (opens_filter (j + 1) n))
    | inr shut ↦ elim (cases_Bool (is_open offer before j)) [
      | inl was ↦ rw (was, shut) (opens_filter (j + 1) n)
      | inr was ↦ rw (was, shut) (opens_filter (j + 1) n)
    ]
  ]

pub opens_all : (offer : OfferData) (cs : List ℕ) (j n : ℕ) → AllByRecursion (λ other. is_open offer cs other ≡ true) (opens_from offer cs j n)
opens_all offer cs j zero = tt
opens_all offer cs j (suc n) = elim (cases_Bool (is_open offer cs j)) [
  | inl opened ↦ rw opened (opened, opens_all offer cs (j + 1) n)
  | inr shut ↦ rw shut (opens_all offer cs (j + 1) n)
]

-- one that stays open is put in front
pub put_kept : (offer : OfferData) (cs : List ℕ) (t : ℕ) (later : List ℕ) (room : List Prospect) (s : ℕ) (here : Prospect) → 1 ≤ s → s ≤ length room
    → is_open offer cs t ≡ true
    → drop s room ≡ prospects offer cs (filter (is_open offer cs) later) → here ≡ prospect offer cs t (map (λ p. p.place) (drop s room))
    → drop (s - 1) (set room (s - 1) here) ≡ prospects offer cs (filter (is_open offer cs) (t ∷ later))
put_kept offer cs t later room s here some within opened rest is =
    let places : map (λ p. p.place) (drop s room) ≡ filter (is_open offer cs) later =
    ap (map (λ p. p.place)) rest ∙ places-prospects offer cs (filter (is_open offer cs) later) in
    let first : here ≡ prospect offer cs t (filter (is_open offer cs) later) = is ∙ ap (prospect offer cs t) places in
    let front : filter (is_open offer cs) (t ∷ later) ≡ t ∷ filter (is_open offer cs) later = rw opened refl in
    put_front room s here some within ∙ (λ i. first i ∷ rest i) ∙ sym (ap (prospects offer cs) front)

pub shut_kept : (offer : OfferData) (cs : List ℕ) (t : ℕ) (later : List ℕ) (kept : List Prospect) → is_open offer cs t ≡ false
    → kept ≡ prospects offer cs (filter (is_open offer cs) later) → kept ≡ prospects offer cs (filter (is_open offer cs) (t ∷ later))
shut_kept offer cs t later kept shut rest =
    let front : filter (is_open offer cs) (t ∷ later) ≡ filter (is_open offer cs) later = rw shut refl in rest ∙ sym (ap (prospects offer cs) front)

pub length-prospects : (offer : OfferData) (cs ps : List ℕ) → length (prospects offer cs ps) ≡ length ps
length-prospects offer cs [] = refl
length-prospects offer cs (p ∷ ps) = ap suc (length-prospects offer cs ps)

-- one of the open places, and those after it
pub record IsSplit (offer : OfferData) (before others later : List ℕ) (one : Prospect) : Type 0 where
  pub one_is : one ≡ prospect offer before one.place later
  pub opened : is_open offer before one.place ≡ true
  pub front : one.place ∷ later ≡ others

split_suc : (offer : OfferData) (before others : List ℕ) (i : ℕ) → i < length others → AllByRecursion (λ other. is_open offer before other ≡ true) others
    → IsSplit offer before (drop i others) (drop (suc i) others) (get_or (prospects offer before others) i no_prospect)
split_suc offer before [] i low all = absurd (omega arith)
split_suc offer before (t ∷ others) zero low all = record { one_is = refl; opened = all.0; front = refl }
split_suc offer before (t ∷ others) (suc i) low all = split_suc offer before others i (omega arith) all.1

pub split_here : (offer : OfferData) (before others : List ℕ) (all : List Prospect) (i : ℕ) → i < length all → all ≡ prospects offer before others
    → AllByRecursion (λ other. is_open offer before other ≡ true) others
    → IsSplit offer before (drop i others) (drop (i + 1) others) (get_or all i no_prospect)
split_here offer before others all i low all_are opens =
    let size : length all ≡ length others = ap length all_are ∙ length-prospects offer before others in
    let next : suc i ≡ i + 1 = omega arith in
    subst (λ n. IsSplit offer before (drop i others) (drop n others) (get_or all i no_prospect)) next
    (subst (λ l. IsSplit offer before (drop i others) (drop (suc i) others) (get_or l i no_prospect)) (sym all_are)
    (split_suc offer before others i (omega arith) opens))
