-- All neighbours of a vector.
use Rattle.std.proofs.Common.{Vec, Global, ℕ, zero, suc, ◌<◌, ◌≤◌, ◌≡◌, ◌∙◌, ◌++◌, ◌+◌, List, [], ◌∷◌, map, length, arith, refl, inl, inr, false, sym, ap, subst, get_or}
use Rattle.std.specs.Prelude.{Result, Ok, Err, IfOk, All, AllPairs, flat_map, Option, Some, None, nat_lt, ◌&&◌, slice_index}
use Rattle.std.specs.Option.{option_map, option_to_list}
use Rattle.std.specs.List.{range_with_len}
use Rattle.std.proofs.lemmas.Bool.{cases_Bool}
use Rattle.std.proofs.lemmas.List.{length-set, length-map, get_or-map}
use Rattle.std.proofs.lemmas.List.FromFn.{length-map-range_with_len}
use Rattle.std.proofs.lemmas.List.Elements.{All-nil, All-cons, All-append, All-map, All-set}
use Rattle.market_units.specs.declared.units.Tokens.{Tokens}
use Rattle.market_units.specs.declared.units.NoMemory.{NoMemory}
use Rattle.bundle_rules.specs.Demand.{price_in}
use Rattle.demand_api.specs.Crowds.{CrowdData, top, count, counts}
use Rattle.demand_api.specs.Asking.{ArePricesFor}
use Rattle.price_neighbours.specs.Distinct.{once, same_prices}
use Rattle.price_neighbours.specs.Neighbours.{stepped_price, stepped, with_alone, alone, least_fewer, neighbours}
use Rattle.price_neighbours.proofs.OnceFacts.{All-once, apart-once, apart_by_place}
use Rattle.price_neighbours.proofs.Leasts.{found_capped}
use Rattle.price_neighbours.proofs.Stepping.{stepped_capped}
use Rattle.price_neighbours.proofs.Distinctness.{vectors_of}
use Rattle.price_neighbours.proofs.Moves.{count_at}

pub neighbours_differ : (crowd : CrowdData) (seats steps : List ℕ) (prices : List Tokens)
    → AllPairs (λ one other. same_prices one other ≡ false) (neighbours crowd seats steps prices)
unfolding neighbours
neighbours_differ crowd seats steps prices = λ i j d below within. apart_by_place same_prices (neighbours crowd seats steps prices) d i j
    (apart-once same_prices
    (map (stepped (top crowd) (count crowd (price_in prices)) seats prices) steps
    ++ flat_map (alone (least_fewer crowd (price_in prices)) (count crowd (price_in prices)) seats prices) (range_with_len 0 (length prices))))
    below within

-- prices of which one is another, at most the top
alone_are : (crowd : CrowdData) (prices : List Tokens) (s p : ℕ) → ArePricesFor crowd prices → p ≤ top crowd → ArePricesFor crowd (with_alone prices s p)
alone_are crowd prices s p are capped = record {
  same = length-set prices s (record { 0 = p }) ∙ are.same;
  high = All-set (λ price. price.0 ≤ top crowd) prices s (record { 0 = p }) capped are.high;
}

stepped_are : (crowd : CrowdData) (counted : ℕ → ℕ) (seats : List ℕ) (prices : List Tokens) (step : ℕ) → ArePricesFor crowd prices
    → ArePricesFor crowd (stepped (top crowd) counted seats prices step)
stepped_are crowd counted seats prices step are = record {
  same =
      length-map-range_with_len (λ s. record { 0 = stepped_price (top crowd) (price_in prices s) (counted s) (slice_index seats s) step }) 0 (length prices)
      ∙ are.same;
  high =
      All-map (λ (price : Tokens). price.0 ≤ top crowd)
      (λ s. record { 0 = stepped_price (top crowd) (price_in prices s) (counted s) (slice_index seats s) step })
      (range_with_len 0 (length prices))
      (λ k d within. stepped_capped (top crowd) (price_in prices (get_or (range_with_len 0 (length prices)) k d))
      (counted (get_or (range_with_len 0 (length prices)) k d)) (slice_index seats (get_or (range_with_len 0 (length prices)) k d)) step);
}

made_are : (crowd : CrowdData) (prices : List Tokens) (s : ℕ) (least : Option ℕ) → ArePricesFor crowd prices → ((p : ℕ) → least ≡ Some p → p ≤ top crowd)
    → All (ArePricesFor crowd) (option_to_list (option_map (with_alone prices s) least))
made_are crowd prices s None are capped = All-nil (ArePricesFor crowd)
made_are crowd prices s (Some p) are capped =
    All-cons (ArePricesFor crowd) (with_alone prices s p) [] (alone_are crowd prices s p are (capped p refl)) (All-nil (ArePricesFor crowd))

moved_are : (crowd : CrowdData) (counted : ℕ → ℕ) (seats : List ℕ) (prices : List Tokens) (s : ℕ) → ArePricesFor crowd prices
    → All (ArePricesFor crowd) (alone (least_fewer crowd (price_in prices)) counted seats prices s)
moved_are crowd counted seats prices s are = elim (cases_Bool (nat_lt (slice_index seats s) (counted s))) [
  | inl over ↦ rw over (made_are crowd prices s (least_fewer crowd (price_in prices) s) are (found_capped crowd (price_in prices) s))
  | inr full ↦ elim (cases_Bool (nat_lt (counted s) (slice_index seats s) && nat_lt 0 (price_in prices s))) [
    | inl free ↦
        rw (full, free) (All-cons (ArePricesFor crowd) (with_alone prices s 0) [] (alone_are crowd prices s 0 are (omega arith)) (All-nil (ArePricesFor crowd)))
    | inr none ↦ rw (full, none) (All-nil (ArePricesFor crowd))
  ]
]

All-flat_map : {A : Type 0} (P : A → Type 0) (f : ℕ → List A) (xs : List ℕ) → ((x : ℕ) → All P (f x)) → All P (flat_map f xs)
All-flat_map P f [] each = All-nil P
All-flat_map P f (x ∷ xs) each = All-append P (f x) (flat_map f xs) (each x) (All-flat_map P f xs each)

pub neighbours_are_prices : (crowd : CrowdData) (seats steps : List ℕ) (prices : List Tokens) → ArePricesFor crowd prices
    → All (ArePricesFor crowd) (neighbours crowd seats steps prices)
unfolding neighbours
neighbours_are_prices crowd seats steps prices are =
    let counted = count crowd (price_in prices) in
    let least = least_fewer crowd (price_in prices) in
    All-once same_prices (ArePricesFor crowd)
    (map (stepped (top crowd) counted seats prices) steps ++ flat_map (alone least counted seats prices) (range_with_len 0 (length prices)))
    (All-append (ArePricesFor crowd) (map (stepped (top crowd) counted seats prices) steps) (flat_map (alone least counted seats prices) (range_with_len 0 (length prices)))
    (All-map (ArePricesFor crowd) (stepped (top crowd) counted seats prices) steps
    (λ k d within. stepped_are crowd counted seats prices (get_or steps k d) are))
    (All-flat_map (ArePricesFor crowd) (alone least counted seats prices) (range_with_len 0 (length prices)) (λ s. moved_are crowd counted seats prices s are)))

-- functions that agree on a range make one list
range_same : {A : Type 0} (f f' : ℕ → A) (a n : ℕ) → ((s : ℕ) → a ≤ s → s < a + n → f s ≡ f' s) → map f (range_with_len a n) ≡ map f' (range_with_len a n)
range_same f f' a zero same = refl
range_same {A} f f' a (suc n) same =
    let rest : map f (range_with_len (a + 1) n) ≡ map f' (range_with_len (a + 1) n) =
    range_same f f' (a + 1) n (λ s from below. same s (omega arith) (omega arith)) in
    ap (λ (x : A). x ∷ map f (range_with_len (a + 1) n)) (same a (omega arith) (omega arith)) ∙ ap (λ l. f' a ∷ l) rest

-- the steps by the list of all counts
stepped_by_counts : (crowd : CrowdData) (seats found : List ℕ) (prices : List Tokens) (high step : ℕ) → found ≡ counts crowd (price_in prices)
    → length prices ≡ crowd.sections → high ≡ top crowd
    → stepped high (slice_index found) seats prices step ≡ stepped (top crowd) (count crowd (price_in prices)) seats prices step
stepped_by_counts crowd seats found prices high step is same at_top =
    rw at_top (range_same (λ s. record { 0 = stepped_price (top crowd) (price_in prices s) (slice_index found s) (slice_index seats s) step }) (λ s. record { 0 = stepped_price (top crowd) (price_in prices s) (count crowd (price_in prices) s) (slice_index seats s) step }) 0 (length prices)
    (λ s from below. let low : s < crowd.sections = omega arith in ap (λ n. record { 0 = stepped_price (top crowd) (price_in prices s) n (slice_index seats s) step }) (count_at crowd (price_in prices) found s is low)))

steps_by_counts : (crowd : CrowdData) (seats found steps : List ℕ) (prices : List Tokens) (high : ℕ) → found ≡ counts crowd (price_in prices)
    → length prices ≡ crowd.sections → high ≡ top crowd
    → map (stepped high (slice_index found) seats prices) steps ≡ map (stepped (top crowd) (count crowd (price_in prices)) seats prices) steps
steps_by_counts crowd seats found [] prices high is same at_top = refl
steps_by_counts crowd seats found (step ∷ steps) prices high is same at_top =
    ap (λ v. v ∷ map (stepped high (slice_index found) seats prices) steps) (stepped_by_counts crowd seats found prices high step is same at_top)
    ∙ ap (λ l. stepped (top crowd) (count crowd (price_in prices)) seats prices step ∷ l) (steps_by_counts crowd seats found steps prices high is same at_top)

-- what is kept of all vectors are the neighbours
pub all_neighbours : (crowd : CrowdData) (seats found steps : List ℕ) (prices : List Tokens) (high : ℕ) (first all : List (List Tokens))
    → found ≡ counts crowd (price_in prices) → length prices ≡ crowd.sections → high ≡ top crowd
    → first ≡ map (stepped high (slice_index found) seats prices) steps
    → all ≡ first ++ flat_map (alone (least_fewer crowd (price_in prices)) (count crowd (price_in prices)) seats prices) (range_with_len 0 (length prices))
    → once same_prices all ≡ neighbours crowd seats steps prices
unfolding neighbours
all_neighbours crowd seats found steps prices high first all is same at_top is_first is_all =
    rw (is_all, is_first, steps_by_counts crowd seats found steps prices high is same at_top) refl

-- so each has prices
pub found_are_prices : (crowd : CrowdData) (seats steps : List ℕ) (prices : List Tokens) (answer : Result (Vec (Vec Tokens Global) Global) NoMemory)
    → ArePricesFor crowd prices
    → IfOk answer (λ found. vectors_of found.items ≡ neighbours crowd seats steps prices)
    → IfOk answer (λ found. All (λ vector. ArePricesFor crowd vector.items) found.items)
found_are_prices crowd seats steps prices (Err none) are is = tt
found_are_prices crowd seats steps prices (Ok found) are is = λ k d within.
    let all : All (ArePricesFor crowd) (vectors_of found.items) =
    subst (All (ArePricesFor crowd)) (sym is) (neighbours_are_prices crowd seats steps prices are) in
    subst (ArePricesFor crowd) (get_or-map (λ (v : Vec Tokens Global). v.items) found.items k d d.items within)
    (all k d.items (rw (length-map found.items (λ (v : Vec Tokens Global). v.items)) within))
