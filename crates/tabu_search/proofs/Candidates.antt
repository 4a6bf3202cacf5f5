-- The first candidate of least error.
use Rattle.std.proofs.Common.{Vec, Global, ℕ, zero, suc, ◌+◌, ◌<◌, ◌≤◌, ◌≡◌, ◌∙◌, ◌++◌, ◌∷◌, [], Bool, true, false, not, List, map, take, length, refl, sym, ap, subst, inl, inr, arith}
use Rattle.std.specs.Prelude.{All, filter, Option, Some, None, MatchOption, nat_eq, slice_index_or}
use Rattle.std.specs.List.{list_any}
use Rattle.std.specs.Cmp.Lexicographic.{pointwise}
use Rattle.std.proofs.lemmas.Bool.{cases_lt}
use Rattle.std.proofs.lemmas.List.{append-nil, take_all, get_or-map}
use Rattle.std.proofs.lemmas.List.Elements.{filter_more}
use Rattle.plain_facts.proofs.Lists.{list_any-map}
use Rattle.market_units.specs.declared.units.Tokens.{Tokens}
use Rattle.bundle_rules.specs.Demand.{price_in}
use Rattle.clearing_error.specs.Errors.{error}
use Rattle.demand_api.specs.Crowds.{CrowdData, IsCrowd}
use Rattle.demand_api.specs.Asking.{ArePricesFor}
use Rattle.price_neighbours.proofs.Distinctness.{vectors_of}
use Rattle.price_neighbours.proofs.Moves.{length_counts, counts_few}
use Rattle.tabu_search.specs.Visits.{counts_at, error_at, first_of_least}
use Rattle.tabu_search.proofs.Batches.{counted_at}
use Rattle.tabu_search.proofs.LeastFirst.{IsFirstOfLeast, first_alone, first_then, first_still, first_found}

-- the counts at the vector are none of these
abbrev pub is_allowed : CrowdData → List (List ℕ) → List Tokens → Bool
is_allowed crowd window prices = not (list_any (pointwise nat_eq (counts_at crowd prices)) window)

-- the test of the window, on the counts
pub tabu_by_counts : (crowd : CrowdData) (window : List (Vec ℕ Global)) (prices : List Tokens) (counts : List ℕ) (found : Bool)
    → counts ≡ counts_at crowd prices → found ≡ list_any (λ other. pointwise nat_eq counts other.items) window
    → is_allowed crowd (map (λ counts. counts.items) window) prices ≡ not found
tabu_by_counts crowd window prices counts found is told =
    ap not (list_any-map (pointwise nat_eq (counts_at crowd prices)) (λ (other : Vec ℕ Global). other.items) window)
    ∙ ap (λ cs. not (list_any (λ (other : Vec ℕ Global). pointwise nat_eq cs other.items) window)) (sym is)
    ∙ ap not (sym told)

module _ (crowd : CrowdData) (seats : List ℕ) (window : List (List ℕ)) (vectors : List (List Tokens)) where
  -- the allowed vectors among the first n
  abbrev pub allowed : ℕ → List (List Tokens)
  allowed n = filter (is_allowed crowd window) (take n vectors)

  -- the place and the error of the first of least error among the first n
  abbrev pub IsBestOf : ℕ → Option (ℕ × ℕ) → Type 0
  IsBestOf n None = allowed n ≡ []
  IsBestOf n (Some (place, error)) =
      (place < length vectors) × IsFirstOfLeast (error_at crowd seats) (allowed n) (slice_index_or vectors place [])
      × (error ≡ error_at crowd seats (slice_index_or vectors place []))

  allowed_then : (n : ℕ) → n < length vectors → is_allowed crowd window (slice_index_or vectors n []) ≡ true
      → allowed (n + 1) ≡ allowed n ++ slice_index_or vectors n [] ∷ []
  allowed_then n low t = filter_more (is_allowed crowd window) vectors n [] low ∙ (rw t refl)

  allowed_still : (n : ℕ) → n < length vectors → is_allowed crowd window (slice_index_or vectors n []) ≡ false → allowed (n + 1) ≡ allowed n
  allowed_still n low f = filter_more (is_allowed crowd window) vectors n [] low ∙ (rw f (append-nil (allowed n)))

  pub best_tabu : (n : ℕ) (best : Option (ℕ × ℕ)) → n < length vectors → is_allowed crowd window (slice_index_or vectors n []) ≡ false → IsBestOf n best
      → IsBestOf (n + 1) best
  best_tabu n None low f is = allowed_still n low f ∙ is
  best_tabu n (Some (place, error)) low f is =
      (is.0, subst (λ l. IsFirstOfLeast (error_at crowd seats) l (slice_index_or vectors place [])) (sym (allowed_still n low f)) is.1, is.2)

  pub best_lower : (n e : ℕ) (best : Option (ℕ × ℕ)) → n < length vectors → is_allowed crowd window (slice_index_or vectors n []) ≡ true
      → e ≡ error_at crowd seats (slice_index_or vectors n []) → MatchOption best (Unit {0}) (λ chosen. e < chosen.1) → IsBestOf n best
      → IsBestOf (n + 1) (Some (n, e))
  best_lower n e None low t at lower is = (
    low,
    subst (λ l. IsFirstOfLeast (error_at crowd seats) l (slice_index_or vectors n []))
        (sym (allowed_then n low t ∙ ap (λ l. l ++ slice_index_or vectors n [] ∷ []) is))
        (first_alone (error_at crowd seats) (slice_index_or vectors n [])),
    at,
  )
  best_lower n e (Some (place, error)) low t at lower is = (
    low,
    subst (λ l. IsFirstOfLeast (error_at crowd seats) l (slice_index_or vectors n [])) (sym (allowed_then n low t))
        (first_then (error_at crowd seats) (allowed n) (slice_index_or vectors place []) (slice_index_or vectors n []) is.1 (rw (← at, ← is.2) lower)),
    at,
  )

  pub best_stays : (n e : ℕ) (best : Option (ℕ × ℕ)) → n < length vectors → is_allowed crowd window (slice_index_or vectors n []) ≡ true
      → e ≡ error_at crowd seats (slice_index_or vectors n []) → ¬ (MatchOption best (Unit {0}) (λ chosen. e < chosen.1)) → IsBestOf n best
      → IsBestOf (n + 1) best
  best_stays n e None low t at not_lower is = absurd (not_lower tt)
  best_stays n e (Some (place, error)) low t at not_lower is =
      let more : error ≤ e = elim (cases_lt e error) [ inl less ↦ absurd (not_lower less) | inr most ↦ most ] in (
        is.0,
        subst (λ l. IsFirstOfLeast (error_at crowd seats) l (slice_index_or vectors place [])) (sym (allowed_then n low t))
            (first_still (error_at crowd seats) (allowed n) (slice_index_or vectors place []) (slice_index_or vectors n []) is.1 (rw (← at, ← is.2) more)),
        is.2,
      )

  allowed_all : (n : ℕ) → length vectors ≤ n → allowed n ≡ filter (is_allowed crowd window) vectors
  allowed_all n past = ap (filter (is_allowed crowd window)) (take_all n vectors past)

  pub none_found : (n : ℕ) → length vectors ≤ n → IsBestOf n None → first_of_least crowd seats (filter (is_allowed crowd window) vectors) ≡ None
  none_found n past is = ap (first_of_least crowd seats) (sym (allowed_all n past) ∙ is)

  pub some_found : (n place error : ℕ) (prices : List Tokens) → length vectors ≤ n → IsBestOf n (Some (place, error)) → prices ≡ slice_index_or vectors place []
      → first_of_least crowd seats (filter (is_allowed crowd window) vectors) ≡ Some prices
  some_found n place error prices past is at =
      ap (first_of_least crowd seats) (sym (allowed_all n past)) ∙ first_found (error_at crowd seats) (allowed n) (slice_index_or vectors place []) is.1
      ∙ ap (λ (ps : List Tokens). Some ps) (sym at)

-- some item stands at each place
pub item_at : {A : Type 0} (xs : List A) (i : ℕ) → i < length xs → (x : A) × (x ≡ slice_index_or xs i x)
item_at [] i low = absurd (omega arith)
item_at (x ∷ xs) zero low = (x, refl)
item_at (x ∷ xs) (suc i) low = item_at xs i (omega arith)

-- the prices and the counts at a place
pub record AreAt (crowd : CrowdData) (seats : List ℕ) (vectors : List (Vec Tokens Global)) (i : ℕ) (prices : List Tokens) (counts : List ℕ) : Type 0 where
  pub at : slice_index_or (vectors_of vectors) i [] ≡ prices
  pub are : ArePricesFor crowd prices
  pub counted : counts ≡ counts_at crowd prices
  pub small : All (λ n. n ≤ 2000) counts
  pub few : length counts ≤ 400
  pub seats_long : length seats ≡ length counts
  pub prices_long : length prices ≡ length counts

pub are_at : (crowd : CrowdData) (seats : List ℕ) (vectors : List (Vec Tokens Global)) (counted : List (Vec ℕ Global)) (i : ℕ) (vector : Vec Tokens Global)
    (counts : Vec ℕ Global)
    → IsCrowd crowd → length seats ≡ crowd.sections → All (λ vector. ArePricesFor crowd vector.items) vectors
    → map (λ counts. counts.items) counted ≡ map (λ vector. counts_at crowd vector.items) vectors → i < length vectors
    → vector ≡ slice_index_or vectors i vector → counts ≡ slice_index_or counted i counts → AreAt crowd seats vectors i vector.items counts.items
are_at crowd seats vectors counted i vector counts known same all is low there here =
    let is_counted : counts.items ≡ counts_at crowd vector.items = counted_at crowd vectors counted i vector counts is low here there in
    let are : ArePricesFor crowd vector.items = subst (λ v. ArePricesFor crowd v.items) (sym there) (all i vector low) in
    let long : length counts.items ≡ crowd.sections = length_counts crowd (price_in vector.items) counts.items is_counted in
    let most : crowd.sections ≤ 400 = known.sections in
    record {
      at = get_or-map (λ (v : Vec Tokens Global). v.items) vectors i vector [] low ∙ ap (λ (v : Vec Tokens Global). v.items) (sym there);
      are = are;
      counted = is_counted;
      small = counts_few crowd (price_in vector.items) counts.items known is_counted;
      few = omega arith;
      seats_long = same ∙ sym long;
      prices_long = are.same ∙ sym long;
    }

-- the same, whatever stands there
pub some_at : (crowd : CrowdData) (seats : List ℕ) (vectors : List (Vec Tokens Global)) (counted : List (Vec ℕ Global)) (i : ℕ) (counts : Vec ℕ Global)
    → IsCrowd crowd → length seats ≡ crowd.sections → All (λ vector. ArePricesFor crowd vector.items) vectors
    → map (λ counts. counts.items) counted ≡ map (λ vector. counts_at crowd vector.items) vectors → i < length vectors
    → counts ≡ slice_index_or counted i counts → (prices : List Tokens) × AreAt crowd seats vectors i prices counts.items
some_at crowd seats vectors counted i counts known same all is low here =
    let there = item_at vectors i low in
    (there.0.items, are_at crowd seats vectors counted i there.0 counts known same all is low there.1 here)

-- whether the vector at a place is allowed
pub allowed_at : (crowd : CrowdData) (seats : List ℕ) (window : List (Vec ℕ Global)) (vectors : List (Vec Tokens Global)) (i : ℕ) (prices : List Tokens)
    (counts : List ℕ) (found : Bool)
    → AreAt crowd seats vectors i prices counts → found ≡ list_any (λ other. pointwise nat_eq counts other.items) window
    → is_allowed crowd (map (λ counts. counts.items) window) (slice_index_or (vectors_of vectors) i []) ≡ not found
allowed_at crowd seats window vectors i prices counts found are told =
    ap (is_allowed crowd (map (λ counts. counts.items) window)) are.at ∙ tabu_by_counts crowd window prices counts found are.counted told

-- the error at a place
pub error_is : (crowd : CrowdData) (seats : List ℕ) (vectors : List (Vec Tokens Global)) (i e : ℕ) (prices : List Tokens) (counts : List ℕ)
    → AreAt crowd seats vectors i prices counts → e ≡ error counts seats prices → e ≡ error_at crowd seats (slice_index_or (vectors_of vectors) i [])
error_is crowd seats vectors i e prices counts are is = is ∙ ap (λ cs. error cs seats prices) are.counted ∙ ap (error_at crowd seats) (sym are.at)
